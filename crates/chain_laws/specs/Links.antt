-- References as a test and as a fact, and where they lead in a sound page area. Assumes nothing.
use Rattle.std.specs.Prelude.{ℕ, ◌≤◌, ◌≡◌, true, not, ◌&&◌, List, eqb}
use Rattle.std.proofs.Common.{arith, subst, eqb-true, eq-eqb, ne_eqb}
use Rattle.std.proofs.lemmas.Bool.{eqb-false, not-true}
use Rattle.words.specs.Tests.{any, any_intro, any_elim, and_split}
use Rattle.pages.specs.Geometry.{slot_words, object_count, is_ref}
use Rattle.pages.specs.Objects.{word_of}
use Rattle.pages.specs.Soundness.{area_sound}
use Rattle.page_laws.specs.SoundFacts.{ref_in_range}
use Rattle.reach.specs.Reaching.{Refers, refers_to}

-- a reference of u names x
pub record Names (a : List ℕ) (u x : ℕ) : Type 0 where
  pub word : ℕ
  pub refers : Refers a u word x

pub refers_names : (a : List ℕ) (u x : ℕ) → refers_to a u x ≡ true → Names a u x
refers_names a u x h =
    let p = and_split (not (eqb x 0)) (any (λ f. is_ref a u f && eqb (word_of a u f) x) slot_words) h in
    any_elim (λ f. is_ref a u f && eqb (word_of a u f) x) slot_words p.1 (λ f l e. let q = and_split (is_ref a u f) (eqb (word_of a u f) x) e in
    record { word = f; refers = record { word = l; reference = q.0; target = eqb-true _ _ q.1; some = λ z. eqb-false x 0 (not-true _ p.0) z } })

pub refers_told : (a : List ℕ) (u f x : ℕ) → Refers a u f x → refers_to a u x ≡ true
refers_told a u f x r = rw (ne_eqb x 0 r.some, any_intro (λ f. is_ref a u f && eqb (word_of a u f) x) slot_words f r.word (rw (r.reference, eq-eqb (word_of a u f) x r.target)))

-- an object of a store of n pages
pub record Object (n x : ℕ) : Type 0 where
  pub low : 1 ≤ x
  pub top : x ≤ object_count n

-- references of objects lead to objects
abbrev pub Within : List ℕ → ℕ → Type 0
Within a n = (u f x : ℕ) → Object n u → Refers a u f x → Object n x

pub sound_within : (a : List ℕ) (n : ℕ) → area_sound a n ≡ true → Within a n
sound_within a n h u f x o r = record {
  low = (let k = r.some in omega arith);
  top = subst (λ (y : ℕ). y ≤ object_count n) r.target (ref_in_range a n u h o.low o.top f r.word r.reference);
}
