-- The records of a transaction's changes that are left, as the log and the undoing words tell them. Assumes nothing.
use Prim.Native.Nat.{ℕ, zero, suc, ◌+◌, ◌*◌, ◌<◌, ◌≤◌}
use native.Mathlib.Omega.{arith}
use native.Mathlib.Numerals.{add-one}
use mathlib.Core.Path.{◌≡◌, refl, ap, ◌∙◌}
use mathlib.Core.Bool.{Bool, ◌&&◌}
use mathlib.Core.List.{List, [], ◌∷◌}
use lib.ListN.{length, take, drop}
use Rattle.words.specs.Tests.{if, by_bool}
use Rattle.records.specs.declared.Record.{Record}
use Rattle.records.specs.Records.{record_words, record_at, recorded, is_begin, is_change, changes_object}
use Rattle.records.specs.Changes.{changes_in}
use Rattle.record_laws.specs.RecordLaws.{recorded_same, recorded_other}

-- with one more record r, which going back appended or not
abbrev pub left_next : Bool → ℕ → Record → List Record → List Record
left_next b t r before = if (is_begin r t) [] (if (b && changes_object r t) (drop 1 before) (if (is_change r t) (r ∷ before) before))

-- newest first, among the first c records
unfoldable pub left_records : (ℕ → Bool) → List ℕ → ℕ → ℕ → List Record
left_records u g t zero = []
left_records u g t (suc i) = left_next (u i) t (record_at g i) (left_records u g t i)

-- the records with these numbers
unfoldable pub records_of : List ℕ → List ℕ → List Record
records_of g [] = []
records_of g (i ∷ is) = record_at g i ∷ records_of g is

records_one : (g is : List ℕ) → records_of g (drop 1 is) ≡ drop 1 (records_of g is)
unfolding records_of
records_one g [] = refl
records_one g (i ∷ is) = refl

pub records_take : (g : List ℕ) (k : ℕ) (is : List ℕ) → records_of g (take k is) ≡ take k (records_of g is)
unfolding records_of
records_take g zero is = refl
records_take g (suc k) [] = refl
records_take g (suc k) (i ∷ is) = ap (λ (rs : List Record). record_at g i ∷ rs) (records_take g k is)

pub records_length : (g is : List ℕ) → length (records_of g is) ≡ length is
unfolding records_of
records_length g [] = refl
records_length g (i ∷ is) = ap suc (records_length g is)

-- they are those of the numbers that are left
pub records_left : (u : ℕ → Bool) (g : List ℕ) (t c : ℕ) → records_of g (changes_in u g t c) ≡ left_records u g t c
unfolding records_of changes_in left_records
records_left u g t zero = refl
records_left u g t (suc i) = let ih = records_left u g t i in by_bool (is_begin (record_at g i) t)
    (λ b. rw b)
    (λ b. by_bool (u i && changes_object (record_at g i) t)
    (λ d. rw (b, d) (records_one g (changes_in u g t i) ∙ ap (drop 1) ih))
    (λ d. by_bool (is_change (record_at g i) t) (λ e. rw (b, d, e) (ap (λ (rs : List Record). record_at g i ∷ rs) ih)) (λ e. rw (b, d, e) ih)))

-- the same records and words below c
pub left_same : (u v : ℕ → Bool) (g h : List ℕ) (t c : ℕ) → ((i : ℕ) → i < c → v i ≡ u i) → ((i : ℕ) → i < c → record_at h i ≡ record_at g i) → left_records v h t c ≡ left_records u g t c
unfolding left_records
left_same u v g h t zero d a = refl
left_same u v g h t (suc i) d a =
    ap (left_next (v i) t (record_at h i)) (left_same u v g h t i (λ j l. d j (omega arith)) (λ j l. a j (omega arith)))
    ∙ ap (λ (b : Bool). left_next b t (record_at h i) (left_records u g t i)) (d i (omega arith))
    ∙ ap (λ (r : Record). left_next (u i) t r (left_records u g t i)) (a i (omega arith))

-- one more record
pub left_append : (u v : ℕ → Bool) (g : List ℕ) (t c : ℕ) (r : Record) → record_words * c + record_words ≤ length g → ((i : ℕ) → i < c → v i ≡ u i)
    → left_records v (recorded g c r) t (c + 1) ≡ left_next (v c) t r (left_records u g t c)
unfolding left_records
left_append u v g t c r long d = ap (left_records v (recorded g c r) t) (add-one c)
    ∙ ap (left_next (v c) t (record_at (recorded g c r) c)) (left_same u v g (recorded g c r) t c d (λ i l. recorded_other g c r i (λ z. omega arith)))
    ∙ ap (λ (q : Record). left_next (v c) t q (left_records u g t c)) (recorded_same g c r long)
