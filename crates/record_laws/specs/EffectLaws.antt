-- Laws of what records do to a page area. Assumes nothing.
use Rattle.std.specs.Prelude.{ℕ, zero, suc, ◌*◌, ◌/◌, ◌≡◌, refl, Bool, true, false, List, length, eqb}
use Rattle.std.proofs.Common.{◌∙◌, length-set, arith, ne_eqb}
use Rattle.words.specs.Tests.{if, by_bool}
use Rattle.words.specs.Bits.{bit, without_bit}
use Rattle.pages.specs.Geometry.{page_of, slot_of, page_words}
use Rattle.page_laws.specs.Places.{length_released_in}
use Rattle.page_laws.specs.ViewLaws.{length_taken, length_freed}
use Rattle.records.specs.declared.Record.{Record}
use Rattle.records.specs.Records.{record_at}
use Rattle.records.specs.Soundness.{record_sound}
use Rattle.records.specs.Effects.{effect, undone}
use Rattle.records.specs.Recovery.{redone, undone_in, recovered}
use Rattle.records.specs.Order.{open_in}

-- a record that is sound among n pages, as an area of n pages takes it
pub sound_for : (n : ℕ) (a : List ℕ) (r : Record) → length a ≡ page_words * n → record_sound n r ≡ true → record_sound (length a / page_words) r ≡ true
sound_for n a r h e = let k : length a / page_words ≡ n = omega arith in rw k e

-- the kinds that change no page
pub effect_none : (a : List ℕ) (r : Record) → (r.kind ≡ 2 → ⊥) → (r.kind ≡ 3 → ⊥) → (r.kind ≡ 6 → ⊥) → (r.kind ≡ 7 → ⊥) → a ≡ effect a r
unfolding effect
effect_none a r b d e f = simp (ne_eqb r.kind 2 b, ne_eqb r.kind 3 d, ne_eqb r.kind 6 e, ne_eqb r.kind 7 f)

pub undone_none : (a : List ℕ) (r : Record) → (r.kind ≡ 2 → ⊥) → (r.kind ≡ 3 → ⊥) → (r.kind ≡ 6 → ⊥) → a ≡ undone a r
unfolding undone
undone_none a r b d e = simp (ne_eqb r.kind 2 b, ne_eqb r.kind 3 d, ne_eqb r.kind 6 e)

-- lengths

pub length_effect : (a : List ℕ) (r : Record) → length (effect a r) ≡ length a
unfolding effect
length_effect a r = by_bool (eqb r.kind 2)
    (λ e. rw e (length_taken a (page_of r.object) (slot_of r.object)))
    (λ e. by_bool (eqb r.kind 3)
    (λ f. rw (e, f) (length-set a _ r.new))
    (λ f. by_bool (eqb r.kind 6)
    (λ x. rw (e, f, x) (length_freed a (page_of r.object) (slot_of r.object)))
    (λ x. by_bool (eqb r.kind 7)
    (λ y. rw (e, f, x, y) (length_released_in a r.object r.new 16))
    (λ y. rw (e, f, x, y)))))

pub length_undone : (a : List ℕ) (r : Record) → length (undone a r) ≡ length a
unfolding undone
length_undone a r = by_bool (eqb r.kind 2)
    (λ e. rw e (length_freed a (page_of r.object) (slot_of r.object)))
    (λ e. by_bool (eqb r.kind 3)
    (λ f. rw (e, f) (length-set a _ r.old))
    (λ f. by_bool (eqb r.kind 6)
    (λ x. rw (e, f, x) (length_taken a (page_of r.object) (slot_of r.object)))
    (λ x. rw (e, f, x))))

-- one of two areas of the same length
pub length_if : (b : Bool) (x y : List ℕ) → length x ≡ length y → length (if b x y) ≡ length y
length_if true x y p = p
length_if false x y p = refl

pub length_redone : (a g : List ℕ) (c : ℕ) → length (redone a g c) ≡ length a
unfolding redone
length_redone a g zero = refl
length_redone a g (suc i) = length_effect (redone a g i) (record_at g i) ∙ length_redone a g i

pub length_undone_in : (g : List ℕ) (m c : ℕ) (a : List ℕ) → length (undone_in g m c a) ≡ length a
unfolding undone_in
length_undone_in g m zero a = refl
length_undone_in g m (suc i) a = let r = record_at g i in
    length_undone_in g (if (eqb r.kind 1) (without_bit m r.txn) m) i (if (bit m r.txn) (undone a r) a)
    ∙ length_if (bit m r.txn) (undone a r) a (length_undone a r)

pub length_recovered : (a g : List ℕ) (c : ℕ) → length (recovered a g c) ≡ length a
unfolding recovered
length_recovered a g c = length_undone_in g (open_in g c) c (redone a g c) ∙ length_redone a g c
