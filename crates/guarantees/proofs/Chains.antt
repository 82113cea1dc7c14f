-- What an accepted chain shows of the copies. Assumes nothing.
use Prim.Native.Nat.{ℕ, ◌-◌, ◌≤◌}
use native.Mathlib.Omega.{arith}
use mathlib.Core.Path.{◌≡◌, refl, sym, ap, ◌∙◌, subst}
use mathlib.Core.Bool.{true}
use mathlib.Core.Logic.{◌⊎◌, inl, inr}
use mathlib.Core.List.{List, [], ◌∷◌, ◌++◌}
use lib.ListN.{length, replicate}
use lib.Dec.{eqb}
use Rattle.words.specs.Tests.{by_bool}
use Rattle.pages.specs.Geometry.{object_count}
use Rattle.pages.specs.Geometry as geometry
use Rattle.pages.specs.Soundness.{area_sound}
use Rattle.reach.specs.Chains.{Chain, root, link, Lower, Ahead, Least}
use Rattle.reach.specs.Search.{found, searched, chain_in}
use Rattle.areas.specs.Answers.{value_of}
use Rattle.areas.specs.Areas.{Areas, Out, done}
use Rattle.areas.specs.Entry.{pages, reopening}
use Rattle.areas.specs.Layout.{finished}
use Rattle.calls.specs.Objects.{if_accepted}
use Rattle.calls.specs.Looks.{call_look}
use Rattle.calls.specs.Chains.{chain_words, chain_tests, chain_look, call_chain, shown, chain_after}
use Rattle.acceptance.specs.Ran.{Ran}
use Rattle.acceptance.specs.Entered.{opened}
use Rattle.chain_laws.specs.Order.{link_length}
use Rattle.chain_laws.specs.Links.{sound_within}
use Rattle.chain_laws.specs.Searching.{chain_some}
use Rattle.chain_laws.specs.Answers.{shown_least, shown_none, chain_reached, reached_chain}
use Rattle.guarantees.specs.Chains.{Tells, ShowsLeast, ShowsNone, ChainShown, ChainReached, ChainOfRoot}
use Rattle.guarantees.proofs.Looked.{look_ran, look_gave}

-- what an accepted chain has found, and what it leaves
pub record Facts (s : Areas) (buffer : List ℕ) (o v : ℕ) : Type 0 where
  pub some : 1 ≤ pages s
  pub sound : area_sound s.copies (pages s) ≡ true
  pub open_store : reopening s ≡ finished
  pub value : v ≡ length (chain_in s.copies (pages s) o)
  pub after : chain_after s buffer o ≡ shown (chain_in s.copies (pages s) o)

module _ (s : Areas) (b : List ℕ) (o v : ℕ) (t : Tells s b o v) where
  ran : Ran true (eqb (length b) chain_words) s (λ n. chain_tests s n o) (call_look s (chain_look b o)) (λ n. done (length (chain_in s.copies n o)) s)
  unfolding call_chain chain_look
  ran = look_ran s (chain_look b o) v t

  gave : call_chain s b o ≡ done (length (chain_in s.copies (pages s) o)) s
  unfolding call_chain chain_look
  gave = look_gave s (chain_look b o) v t

  pub facts : Facts s b o v
  unfolding chain_after
  facts = let z = opened _ s ran.n ran.ready in let e = ran.ready.count in record {
    some = subst (λ (n : ℕ). 1 ≤ n) (sym e) z.sized.low;
    sound = subst (λ (n : ℕ). area_sound s.copies n ≡ true) (sym e) z.ranged.copies_sound;
    open_store = z.finished;
    value = ap value_of (sym t ∙ ap (λ (x : Out). x.answer) gave);
    after = ap (λ (x : Out). if_accepted x.answer (shown (chain_in s.copies (pages s) o)) b) gave;
  }

  abbrev a : List ℕ
  a = s.copies

  abbrev c : List ℕ
  c = chain_in s.copies (pages s) o

  -- found, or not
  told : Least a o c ⊎ ((c ≡ []) × ((d : List ℕ) → Chain a o d → ⊥))
  told = let f = facts in let w = sound_within a (pages s) f.sound in by_bool (found (searched a (pages s) (object_count (pages s))) o)
      (λ h. inl (shown_least a (pages s) f.some w o h))
      (λ h. inr (shown_none a (pages s) f.some w o h))

  pub tells_least : (v ≡ 0 → ⊥) → ShowsLeast a s b o v
  tells_least n = let f = facts in elim told [
    | inl l ↦ record { chain = c; least = l; size = f.value; shown = f.after ∙ ap (λ (k : ℕ). c ++ replicate (chain_words - k) 0) (sym f.value) }
    | inr l ↦ absurd (n (f.value ∙ ap length l.0))
  ]

  pub tells_none : v ≡ 0 → ShowsNone a s b o
  tells_none z = let f = facts in elim told [
    | inl l ↦ absurd (let k = chain_some l.chain in let e = f.value in omega arith)
    | inr l ↦ record { none = l.1; shown = f.after ∙ ap shown l.0 }
  ]

pub chain_shown : ChainShown
chain_shown s = record { some = λ b o v t. tells_least s b o v t; none = λ b o v t. tells_none s b o v t }

pub told_reached : ChainReached
told_reached s b o v t = record {
  some = λ r z. (tells_none s b o v t z).none _ (reached_chain r).chain;
  reached = λ n. chain_reached (tells_least s b o v t n).least.chain;
}

-- a chain of one object is the root's
one_object : {a : List ℕ} {o : ℕ} {c : List ℕ} → Chain a o c → length c ≡ 1 → c ≡ geometry.root ∷ []
one_object root e = refl
one_object (link {u} {x} {c} f p r) e = absurd (let k = chain_some p in let z = link_length c x in omega arith)

not_ahead : {a : List ℕ} {o : ℕ} (c : List ℕ) → Chain a o c → Ahead c (geometry.root ∷ []) → ⊥
not_ahead c p (inl l) = let k = chain_some p in omega arith
not_ahead c p (inr l) = elim (subst (λ (d : List ℕ). Lower d (geometry.root ∷ [])) (one_object p l.0) l.1) [ inl h ↦ omega arith | inr h ↦ h.1 ]

pub chain_of_root : ChainOfRoot
chain_of_root s b v t =
    let n : v ≡ 0 → ⊥ = λ z. (tells_none s b geometry.root v t z).none _ root in
    let l = tells_least s b geometry.root v t n in
    let e : geometry.root ∷ [] ≡ l.chain = elim (l.least.ahead (geometry.root ∷ []) root) [ inl z ↦ z | inr h ↦ absurd (not_ahead l.chain l.least.chain h) ] in
    let z : v ≡ 1 = l.size ∙ ap length (sym e) in
    (z, l.shown ∙ ap (λ (d : List ℕ). d ++ replicate (chain_words - v) 0) (sym e) ∙ ap (λ (k : ℕ). geometry.root ∷ replicate (chain_words - k) 0) z)
