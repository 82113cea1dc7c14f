-- Where no transaction runs the copies show the committed state, and so do the chains; and the call is one of demand 3's. Assumes nothing.
use Prim.Native.Nat.{ℕ, ◌<◌, ◌≤◌}
use native.Mathlib.Omega.{arith}
use mathlib.Core.Path.{◌≡◌, refl, sym, ap, ◌∙◌}
use mathlib.Core.Bool.{false}
use mathlib.Core.List.{List}
use Rattle.words.specs.Tests.{by_bool}
use Rattle.pages.specs.Geometry.{slot_words, page_of, slot_of}
use Rattle.pages.specs.Objects.{word_of}
use Rattle.page_laws.specs.SoundFacts.{ref_same}
use Rattle.reach.specs.Chains.{Chain, root, link, Least}
use Rattle.areas.specs.Areas.{Areas}
use Rattle.calls.specs.Calls.{perform}
use Rattle.calls.specs.Chains.{call_chain}
use Rattle.areas.specs.Layout.{finished}
use Rattle.areas.specs.Entry.{reopening}
use Rattle.collector.specs.Objects as Collector
use Rattle.collector.specs.Objects.{Obj}
use Rattle.book.specs.Books.{Book, committed_pages}
use Rattle.machine_view.proofs.Effects.{view_word}
use Rattle.machine_calls.specs.Tables.{locks_of}
use Rattle.book_laws.proofs.Pages.{committed_view}
use Rattle.demand.proofs.State.{OpenInv, Inv3, open_store, cut_store, reopening_store}
use Rattle.chain_laws.specs.Answers.{chain_reached}
use Rattle.reach.specs.Reaching.{reached_some}
use Rattle.guarantees.specs.Chains.{ChainIsACall, Tells, ShowsIn, CommittedChain, AlwaysCommittedChain}
use Rattle.guarantees.proofs.Refusals.{always}
use Rattle.guarantees.proofs.Chains.{facts, tells_least, tells_none}

-- two areas that show the same words of every object have the same chains
module _ (a b : List ℕ) (same : (u f : ℕ) → 1 ≤ u → f < slot_words → word_of a u f ≡ word_of b u f) where
  chain_in : {o : ℕ} {c : List ℕ} → Chain a o c → Chain b o c
  chain_in root = root
  chain_in (link {u} f p r) = link f (chain_in p) (record {
    word = r.word;
    reference = ref_same a b (page_of u) (slot_of u) f r.reference;
    target = sym (same u f (reached_some (chain_reached p)) r.word) ∙ r.target;
    some = r.some;
  })

least_in : (a b : List ℕ) → ((u f : ℕ) → 1 ≤ u → f < slot_words → word_of a u f ≡ word_of b u f) → {o : ℕ} {c : List ℕ} → Least a o c → Least b o c
least_in a b same l = record { chain = chain_in a b same l.chain; ahead = λ d p. l.ahead d (chain_in b a (λ u f k h. sym (same u f k h)) p) }

module _ (n : ℕ) (s : Areas) (b : Book) (i : OpenInv n s b) (quiet : (t : ℕ) → b.running t ≡ 0) where
  nobody_writes : (p t : ℕ) → (locks_of s.work n).wr t p ≡ false
  nobody_writes p t = by_bool ((locks_of s.work n).wr t p) (λ e. absurd (i.active t (i.collector.exclusive.writer t p e).0 (quiet t))) (λ e. e)

  same_words : (u f : ℕ) → 1 ≤ u → f < slot_words → word_of s.copies u f ≡ word_of (committed_pages b) u f
  same_words u f l h =
      sym (view_word s.copies u l f h)
      ∙ ap (λ (x : Obj). x.word f) (i.collector.agreed.free_c u (nobody_writes (Collector.page_of u)) ∙ sym (committed_view n b i.sound u))
      ∙ view_word (committed_pages b) u l f h

not_open : (n : ℕ) (s : Areas) (buffer : List ℕ) (o v k : ℕ) → Tells s buffer o v → reopening s ≡ k → (k ≡ finished → ⊥) → ⊥
not_open n s buffer o v k t e d = d (sym e ∙ (facts s buffer o v t).open_store)

-- by how the store stands
by_store : (n : ℕ) (s : Areas) (b : Book) → Inv3 n s b → ((t : ℕ) → b.running t ≡ 0) → ShowsIn (committed_pages b) s
by_store n s b (open_store i) quiet = let same = same_words n s b i quiet in record {
  some = λ buffer o v t z. let l = tells_least s buffer o v t z in record { chain = l.chain; least = least_in s.copies (committed_pages b) same l.least; size = l.size; shown = l.shown };
  none = λ buffer o v t z. let l = tells_none s buffer o v t z in record { none = λ c p. l.none c (chain_in (committed_pages b) s.copies (λ u f k h. sym (same u f k h)) p); shown = l.shown };
}
by_store n s b (cut_store i) quiet = record {
  some = λ buffer o v t z. absurd (not_open n s buffer o v 0 t i.word (λ e. omega arith));
  none = λ buffer o v t z. absurd (not_open n s buffer o v 0 t i.word (λ e. omega arith));
}
by_store n s b (reopening_store k l i) quiet = record {
  some = λ buffer o v t z. absurd (not_open n s buffer o v 1 t i.word (λ e. omega arith));
  none = λ buffer o v t z. absurd (not_open n s buffer o v 1 t i.word (λ e. omega arith));
}

pub always_committed_chain : AlwaysCommittedChain
always_committed_chain = always CommittedChain (λ n some q u quiet. by_store n q.store q.book u.inv quiet)

pub chain_is_a_call : ChainIsACall
unfolding perform call_chain
chain_is_a_call s buffer o = refl
