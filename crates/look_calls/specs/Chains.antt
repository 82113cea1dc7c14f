-- A chain: what its tests give the code, its outcome and its buffer. Assumes nothing.
use Rattle.std.specs.Prelude.{ℕ, ◌*◌, ◌≤◌, ◌≡◌, refl, true, false, List, [], length, eqb, Ok, Err}
use Rattle.std.proofs.Math.Path.{ap}
use Rattle.std.proofs.Common.{◌∙◌}
use borrow.Author.Tests.{eqb-true}
use Rattle.pages.specs.Geometry.{page_words, max_pages}
use Rattle.pages.specs.Soundness.{area_sound}
use Rattle.reach.specs.Search.{chain_in}
use Rattle.areas.specs.declared.Refusal.{Refusal}
use Rattle.areas.specs.declared.Refusal.TheVariants.{Malformed, NotOpen}
use Rattle.areas.specs.Answers.{verdict, passed}
use Rattle.areas.specs.Areas.{Areas, Out, areas, out}
use Rattle.areas.specs.Entry.{pages, well_formed, is_ready}
use Rattle.acceptance.specs.Entered.{Open}
use Rattle.acceptance.specs.Objects.{object_facts}
use Rattle.calls.specs.Chains.{chain_words, chain_tests, chain_look, call_chain, shown, chain_after}
use Rattle.chain_laws.specs.Links.{Object}
use Rattle.look_calls.specs.Looks.{Gives, gives_malformed, gives_closed, gives_refused, gives_passed}

-- the outcome and the buffer
abbrev pub ChainGives : Out → List ℕ → Areas → List ℕ → ℕ → Type 0
ChainGives x l s b o = (x ≡ call_chain s b o) × (l ≡ chain_after s b o)

-- the tests look at the copies only
chain_looks : (s c r g k w : List ℕ) (n o : ℕ) → chain_tests (areas [] c [] [] [] []) n o ≡ chain_tests (areas s c r g k w) n o
unfolding chain_tests
chain_looks s c r g k w n o = refl

module _ (s c r g k w b : List ℕ) (o : ℕ) where
  -- what the tests give the code
  pub chain_ready : (n : ℕ) → Open (areas s c r g k w) n → eqb (length b) chain_words ≡ true → verdict (chain_tests (areas [] c [] [] [] []) n o) ≡ Ok tt →
      (length c ≡ page_words * n) × (1 ≤ n) × (n ≤ max_pages) × (area_sound c n ≡ true) × Object n o × (length b ≡ chain_words)
  unfolding chain_tests
  chain_ready n h e p =
      let q = object_facts n o (passed _ 0 p) in
      (h.sized.copies_len, h.sized.low, h.sized.top, h.ranged.copies_sound, record { low = q.low; top = q.top }, eqb-true _ _ e)

  -- it is a call that only looks
  gives : (x : Out) (l : List ℕ) → Gives (areas s c r g k w) (chain_look b o) b (shown (chain_in c (pages (areas s c r g k w)) o)) x l → ChainGives x l (areas s c r g k w) b o
  unfolding call_chain chain_after
  gives x l h = h

  pub chain_malformed : well_formed (eqb (length b) chain_words) (areas s c r g k w) ≡ false → ChainGives (out (Err Malformed) s c r g k w) b (areas s c r g k w) b o
  unfolding chain_look
  chain_malformed h = gives _ _ (gives_malformed _ _ _ _ h)

  module _ (h : well_formed (eqb (length b) chain_words) (areas s c r g k w) ≡ true) where
    pub chain_closed : is_ready true (areas s c r g k w) ≡ false → ChainGives (out (Err NotOpen) s c r g k w) b (areas s c r g k w) b o
    unfolding chain_look
    chain_closed e = gives _ _ (gives_closed _ _ _ _ h e)

    module _ (e : is_ready true (areas s c r g k w) ≡ true) where
      pub chain_refused : (x : Refusal) → Err x ≡ verdict (chain_tests (areas [] c [] [] [] []) (pages (areas s c r g k w)) o) →
          ChainGives (out (Err x) s c r g k w) b (areas s c r g k w) b o
      unfolding chain_look
      chain_refused x d = gives _ _ (gives_refused _ _ _ _ h e x (d ∙ ap verdict (chain_looks s c r g k w _ o)))

      pub chain_passed : (v : ℕ) (b' : List ℕ) → Ok tt ≡ verdict (chain_tests (areas [] c [] [] [] []) (pages (areas s c r g k w)) o) →
          (v ≡ length (chain_in c (pages (areas s c r g k w)) o)) × (b' ≡ shown (chain_in c (pages (areas s c r g k w)) o)) →
          ChainGives (out (Ok v) s c r g k w) b' (areas s c r g k w) b o
      unfolding chain_look
      chain_passed v b' d z = gives _ _ (gives_passed _ _ _ _ h e v b' (d ∙ ap verdict (chain_looks s c r g k w _ o)) z.0 z.1)
