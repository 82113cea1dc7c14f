-- The ranges of a record's words, by a row of ranges for each kind, and one for a set of a data word. n is the number of pages.
-- Assumes nothing.
use Rattle.std.specs.Prelude.{◌≡◌, ℕ, zero, suc, ◌+◌, ◌-◌, ◌*◌, ◌/◌, ◌%◌, ◌^◌, ◌<◌, ◌≤◌, Bool, true, false, not, ◌&&◌, ◌||◌, leb, List, [], ◌∷◌, ◌==◌, ◌≢◌, bit_and, bit_or, nat_eq, nat_le, nat_lt, slice_index, slice_index_or, refl}
use Rattle.std.proofs.Common.{sym, ap, ◌∙◌, ltb-true, ltb-false, leb-true, leb-false, eqb-true, lt-ltb, le-ltb, le-leb, eq-eqb, ne_eqb}
use Rattle.std.specs.Int.Bits.{and_zero_r, or_add_and}
use Rattle.std.proofs.lemmas.Nat.{and_mask, and_le_r, or_lt}
use Rattle.std.proofs.lemmas.Nat.Bits.{and_high}
use mir.Val.{bool_byte}
use native.Mathlib.Omega.{arith}
use Rattle.std.proofs.lemmas.Bool.{eqb-false, lt-leb}
use Rattle.words.specs.Tests.{if, all, all_stop, by_bool, and_false, and_true, and_assoc, and_swap, and_cong, and_split}
use Rattle.words.specs.Bits.{bit, bit_low}
use Rattle.pages.specs.Geometry.{slot_words, ref_words, map_top, max_pages, object_count, root}
use Rattle.page_laws.specs.BitLaws.{or_none, or_le_r}
use Rattle.records.specs.declared.Record.{Record}
use Rattle.record_ranges.specs.declared.Row.{Row}
use Rattle.records.specs.Records.{record_words, txn_count, record_at, made}
use Rattle.records.specs.Soundness.{word_sound, record_sound, records_sound}
use Rattle.record_laws.specs.RecordLaws.{records_sound_next}

-- the kinds, 1 to 7, and none
abbrev kind_rows : ℕ
kind_rows = 8

-- words have 32 bits
abbrev word_size : ℕ
word_size = 2 ^ 32

abbrev ones : ℕ
ones = word_size - 1

abbrev four : ℕ → ℕ → ℕ → ℕ → List ℕ
four a b c d = a ∷ b ∷ c ∷ d ∷ []

abbrev sixteen : {A : Type 0} → A → A → A → A → A → A → A → A → A → A → A → A → A → A → A → A → List A
sixteen a b c d e f g h i j k l m n o p = a ∷ b ∷ c ∷ d ∷ e ∷ f ∷ g ∷ h ∷ i ∷ j ∷ k ∷ l ∷ m ∷ n ∷ o ∷ p ∷ []

-- the row of a record: its kind, and as many more as there are kinds where its field is that of a data word
abbrev pub row_of : Record → ℕ
row_of r = r.kind % kind_rows + kind_rows * (r.field / ref_words % 2)

-- a row: the least values of the object, the field, the old and the new word; how far the values may lie above the least; the bits that
-- the transaction must not have
abbrev row : List ℕ → List ℕ → ℕ → Row
row l s t = record { low = l; span = s; barred = t }

-- 'a record's transaction, object, page or field out of range; an unused word not 0', by row
abbrev pub rows : ℕ → List Row
rows n =
    let t = ones - (txn_count - 1) in
    let none = row (four 0 ref_words 0 0) (four 0 0 0 0) t in
    let end = row (four 0 0 0 0) (four 0 0 0 0) t in
    let make = row (four (root + 1) 0 0 0) (four (object_count n - (root + 1)) 0 0 0) t in
    let set = row (four root 0 0 0) (four (object_count n - root) (slot_words - 1) (object_count n) (object_count n)) t in
    let word = row (four root 0 0 0) (four (object_count n - root) (slot_words - 1) ones ones) t in
    let sweep = row (four 0 0 0 0) (four (n - 1) 0 0 map_top) ones in
    sixteen none end make set end end make sweep end end make word end end make sweep

-- x lies from low to span above it: their difference wraps where x is below low
abbrev pub inside : ℕ → ℕ → ℕ → Bool
inside x low span = nat_le (if (nat_le low x) (x - low) (x + (word_size - low))) span

-- a transaction without the bits that it must not have, and not 'a record that .. frees the root', the first slot of page 0
abbrev pub strayless : Record → ℕ → Bool
strayless r bits = bit_and r.txn bits == 0 && not (r.object == 0 && bit r.new 0)

-- a record held to a row
unfoldable pub row_test : Record → Row → Bool
row_test r w =
    nat_lt r.kind kind_rows && inside r.object (slice_index w.low 0) (slice_index w.span 0) && inside r.field (slice_index w.low 1) (slice_index w.span 1)
    && inside r.old (slice_index w.low 2) (slice_index w.span 2) && inside r.new (slice_index w.low 3) (slice_index w.span 3) && strayless r w.barred

abbrev pub row_sound : ℕ → Record → ℕ → Bool
row_sound n r i = row_test r (slice_index_or (rows n) i (row [] [] 0))

-- nothing was found: the kinds together, and five words
unfoldable pub clean : ℕ → ℕ → ℕ → ℕ → ℕ → ℕ → Bool
clean kinds f0 f1 f2 f3 f4 = nat_lt kinds kind_rows && f0 == 0 && f1 == 0 && f2 == 0 && f3 == 0 && f4 == 0

-- laws of one word

wrapped : (d low x : ℕ) → d < 2 ^ 32 → low < 2 ^ 32 → x < 2 ^ 32 → (d + low) % 2 ^ 32 ≡ x → d ≡ if (nat_le low x) (x - low) (x + (word_size - low))
wrapped d low x hd hl hx e = by_bool (nat_le low x)
    (λ t. let l = leb-true low x t in rw t (omega arith))
    (λ t. let l = leb-false low x t in rw t (omega arith))

pub outside_none : (before d up x low span : ℕ) → d < 2 ^ 32 → low < 2 ^ 32 → x < 2 ^ 32 → (d + low) % 2 ^ 32 ≡ x → (up == 0) ≡ nat_le d span
    → (bit_or before up == 0) ≡ (before == 0) && inside x low span
outside_none before d up x low span hd hl hx e h =
    or_none before up ∙ ap (λ (q : Bool). (before == 0) && q) (h ∙ ap (λ (y : ℕ). leb y span) (wrapped d low x hd hl hx e))

first_slot : (m : ℕ) (z : Bool) → (bit_and m (bool_byte z) == 0) ≡ not (z && bit m 0)
first_slot m false = ap (λ (x : ℕ). nat_eq x 0) (and_zero_r m)
first_slot m true = ap (λ (x : ℕ). nat_eq x 0) (and_mask m 1) ∙ by_bool (m % 2 == 1)
    (λ e. let h = eqb-true (m % 2) 1 e in ne_eqb (m % 2 ^ 1) 0 (λ q. omega arith) ∙ sym (ap not (bit_low m ∙ e)))
    (λ e. let h = eqb-false (m % 2) 1 e in eq-eqb (m % 2 ^ 1) 0 (let k : (m % 2 ≢ 1) = h in omega (arith, k)) ∙ sym (ap not (bit_low m ∙ e)))

pub strays_none : (before bits : ℕ) (r : Record) → (bit_or (bit_or before (bit_and r.txn bits)) (bit_and r.new (bool_byte (r.object == 0))) == 0) ≡ (before == 0) && strayless r bits
strays_none before bits r =
    or_none (bit_or before (bit_and r.txn bits)) (bit_and r.new (bool_byte (r.object == 0)))
    ∙ and_cong (or_none before (bit_and r.txn bits)) (first_slot r.new (r.object == 0))
    ∙ and_assoc (before == 0) (bit_and r.txn bits == 0) (not (r.object == 0 && bit r.new 0))

or_below : (a b : ℕ) → nat_lt (bit_or a b) kind_rows ≡ nat_lt a kind_rows && nat_lt b kind_rows
or_below a b = by_bool (nat_lt a kind_rows)
    (λ e. by_bool (nat_lt b kind_rows)
    (λ f. rw (e, f) (lt-ltb (bit_or a b) kind_rows (or_lt 3 a b (ltb-true a kind_rows e) (ltb-true b kind_rows f))))
    (λ f. let h = ltb-false b kind_rows f in let l = or_le_r a b in rw (e, f) (le-ltb (bit_or a b) kind_rows (omega arith))))
    (λ e. let h = ltb-false a kind_rows e in let s = or_add_and a b in let l = and_le_r a b in rw e (le-ltb (bit_or a b) kind_rows (omega arith)))

-- laws of one more record

six_pairs : (a b c d e f p q r s t u : Bool) → (a && p) && (b && q) && (c && r) && (d && s) && (e && t) && (f && u)
    ≡ (a && b && c && d && e && f) && (p && q && r && s && t && u)
six_pairs a b c d e f p q r s t u =
    rw (
      and_swap a p b q,
      and_swap (a && b) (p && q) c r,
      and_swap (a && b && c) (p && q && r) d s,
      and_swap (a && b && c && d) (p && q && r && s) e t,
      and_swap (a && b && c && d && e) (p && q && r && s && t) f u,
    )

flat : (a b c d e f : Bool) → a && b && c && d && e && f ≡ a && (b && c && d && e && f)
flat true b c d e f = refl
flat false b c d e f = refl

pub clean_none : (n : ℕ) (g : List ℕ) → clean 0 0 0 0 0 0 ≡ records_sound n g 0
unfolding all records_sound clean
clean_none n g = refl

pub clean_next : (n : ℕ) (g : List ℕ) (i kinds f0 f1 f2 f3 f4 g0 g1 g2 g3 g4 : ℕ) (r : Record) (w : Row)
    → r ≡ record_at g i → clean kinds f0 f1 f2 f3 f4 ≡ records_sound n g i → row_test r w ≡ record_sound n r
    → ((g0 == 0) ≡ (f0 == 0) && inside r.object (slice_index w.low 0) (slice_index w.span 0))
    × ((g1 == 0) ≡ (f1 == 0) && inside r.field (slice_index w.low 1) (slice_index w.span 1))
    × ((g2 == 0) ≡ (f2 == 0) && inside r.old (slice_index w.low 2) (slice_index w.span 2))
    × ((g3 == 0) ≡ (f3 == 0) && inside r.new (slice_index w.low 3) (slice_index w.span 3))
    × ((g4 == 0) ≡ (f4 == 0) && strayless r w.barred)
    → clean (bit_or kinds r.kind) g0 g1 g2 g3 g4 ≡ records_sound n g (i + 1)
unfolding row_test clean
clean_next n g i kinds f0 f1 f2 f3 f4 g0 g1 g2 g3 g4 r w h c s e =
    and_cong (and_cong (and_cong (and_cong (and_cong (or_below kinds r.kind) e.0) e.1) e.2) e.3) e.4
    ∙ six_pairs (nat_lt kinds kind_rows) (f0 == 0) (f1 == 0) (f2 == 0) (f3 == 0) (f4 == 0) _ _ _ _ _ _
    ∙ and_cong c (s ∙ ap (record_sound n) h)
    ∙ records_sound_next n g i

pub clean_end : (n : ℕ) (g : List ℕ) (c i kinds f0 f1 f2 f3 f4 : ℕ) → clean kinds f0 f1 f2 f3 f4 ≡ records_sound n g i → i ≡ c
    → nat_lt kinds kind_rows && (bit_or (bit_or (bit_or (bit_or f0 f1) f2) f3) f4 == 0) ≡ records_sound n g c
unfolding clean
clean_end n g c i kinds f0 f1 f2 f3 f4 h e = simp or_none (sym (flat (nat_lt kinds kind_rows) (f0 == 0) (f1 == 0) (f2 == 0) (f3 == 0) (f4 == 0)) ∙ rw (← e) h)

-- laws of the rows: a record's kind by itself, and the tests of its row as those of its words

at_digit : (P : ℕ → Type 0) (x : ℕ) → x < 2 → (x ≡ 0 → P 0) → (x ≡ 1 → P 1) → P x
at_digit P zero h a b = a refl
at_digit P (suc zero) h a b = b refl
at_digit P (suc (suc x)) h a b = absurd (omega arith)

row_order : (t o f a b q : Bool) → (o ≡ true → b ≡ true → q ≡ true) → o && f && a && b && (t && q) ≡ t && o && f && a && b
row_order false o f a b q h = and_false (o && f && a && b)
row_order true false f a b q h = refl
row_order true true false a b q h = refl
row_order true true true false b q h = refl
row_order true true true true false q h = refl
row_order true true true true true q h = h refl refl

second_false : (i j k l s : Bool) → j ≡ false → i && j && k && l && s ≡ false
second_false i j k l s e = rw (e, and_false i)

third_false : (t o f a b : Bool) → f ≡ false → t && o && f && a && b ≡ false
third_false t o f a b e = rw (e, and_false (t && o))

sweep_order : (t o f a b q : Bool) → o && f && a && b && (t && q) ≡ t && o && f && a && (b && q)
sweep_order false o f a b q = and_false (o && f && a && b)
sweep_order true o f a b q = and_assoc (o && f && a) b q

-- x is at most top; x is 0; x lies from a least value up
inside_to : (x top : ℕ) → inside x 0 top ≡ nat_le x top
inside_to x top = let e : x - 0 ≡ x = omega arith in rw (le-leb 0 x (omega arith), e)

inside_zero : (x : ℕ) → inside x 0 0 ≡ (x == 0)
inside_zero x = inside_to x 0 ∙ by_bool (x == 0)
    (λ e. let h = eqb-true x 0 e in le-leb x 0 (omega arith) ∙ sym e)
    (λ e. let h = eqb-false x 0 e in lt-leb x 0 (let k : (x ≢ 0) = h in omega (arith, k)) ∙ sym e)

inside_from : (x low top : ℕ) → low ≤ 2 → low ≤ top → top ≤ object_count max_pages → inside x low (top - low) ≡ nat_le low x && nat_le x top
inside_from x low top h l m = by_bool (nat_le low x)
    (λ e. let k = leb-true low x e in rw e (same k))
    (λ e. let k = leb-false low x e in rw e (lt-leb (x + (word_size - low)) (top - low) (omega arith)))
  where
    same : low ≤ x → nat_le (x - low) (top - low) ≡ nat_le x top
    same k = by_bool (nat_le x top)
        (λ e. let t = leb-true x top e in le-leb (x - low) (top - low) (omega arith) ∙ sym e)
        (λ e. let t = leb-false x top e in lt-leb (x - low) (top - low) (omega arith) ∙ sym e)

txn_below : (t : ℕ) → t < 2 ^ 32 → (bit_and t (ones - (txn_count - 1)) == 0) ≡ nat_lt t txn_count
txn_below t h = ap (λ (x : ℕ). nat_eq x 0) (and_high t 28 4) ∙ by_bool (nat_lt t txn_count)
    (λ e. let l = ltb-true t txn_count e in let z : t / 2 ^ 4 ≡ 0 = omega arith in rw z (sym e))
    (λ e. let l = ltb-false t txn_count e in let z : t / 2 ^ 4 % 2 ^ 28 ≡ t / 2 ^ 4 = omega arith in let y : 1 ≤ t / 2 ^ 4 = omega arith in
    ne_eqb (t / 2 ^ 4 % 2 ^ 28 * 2 ^ 4) 0 (λ q. omega arith) ∙ sym e)

txn_zero : (t : ℕ) → t < 2 ^ 32 → (bit_and t ones == 0) ≡ (t == 0)
txn_zero t h = ap (λ (x : ℕ). nat_eq x 0) (let e : t % 2 ^ 32 ≡ t = omega arith in and_mask t 32 ∙ e)

-- nothing freed, or an object that is not 0
none_freed : (o b : ℕ) → (b == 0) ≡ true → not (o == 0 && bit b 0) ≡ true
none_freed o b e = let h : b ≡ 0 = eqb-true b 0 e in rw (h, and_false (o == 0))

some_object : (o b : ℕ) (p q : Bool) → nat_le 1 o && p && q ≡ true → not (o == 0 && bit b 0) ≡ true
some_object o b p q e = let s = and_split (nat_le 1 o && p) q e in let t = and_split (nat_le 1 o) p s.0 in let l = leb-true 1 o t.0 in rw (ne_eqb o 0 (λ z. omega arith))

-- no field has its place in row 0 or in row 8
no_field : (f : ℕ) → f / ref_words % 2 ≡ 0 → inside f ref_words 0 ≡ false
no_field f d = by_bool (nat_le ref_words f)
    (λ e. let h = leb-true ref_words f e in rw e (lt-leb (f - ref_words) 0 (omega arith)))
    (λ e. rw e (lt-leb (f + (word_size - ref_words)) 0 (omega arith)))

no_zero : (f : ℕ) → f / ref_words % 2 ≡ 1 → inside f 0 0 ≡ false
no_zero f d = inside_zero f ∙ ne_eqb f 0 (λ z. let e : f / ref_words % 2 ≡ 0 = rw z in omega arith)

-- a kind above 7
unknown : (n i : ℕ) (r : Record) → kind_rows ≤ r.kind → row_sound n r i ≡ record_sound n r
unfolding row_test word_sound record_sound
unknown n i r h = rw (le-ltb r.kind kind_rows h) (sym (all_stop (word_sound n r) record_words 0 (omega arith) (rw (lt-leb r.kind (kind_rows - 1) (omega arith)) (and_false (nat_le 1 r.kind)))))

-- the bounds of a record's words that the rows lean on
pub record Words (n t a b : ℕ) : Type 0 where
  pub pages_from : 1 ≤ n
  pub pages_to : n ≤ max_pages
  pub txn : t < 2 ^ 32
  pub old : a < 2 ^ 32
  pub new : b < 2 ^ 32

module _ (n t o f a b : ℕ) (w : Words n t a b) where
  -- a begin, a commit and the end of an abort
  end_row : inside o 0 0 && inside f 0 0 && inside a 0 0 && inside b 0 0 && (bit_and t (ones - (txn_count - 1)) == 0 && not (o == 0 && bit b 0))
      ≡ nat_lt t txn_count && o == 0 && f == 0 && a == 0 && b == 0
  end_row = rw (inside_zero o, inside_zero f, inside_zero a, inside_zero b, txn_below t w.txn)
      (row_order (nat_lt t txn_count) (o == 0) (f == 0) (a == 0) (b == 0) (not (o == 0 && bit b 0)) (λ p q. none_freed o b q))

  -- a create and an uncreate
  not_root : inside o 2 (object_count n - (root + 1)) ≡ (nat_le 1 o && nat_le o (object_count n)) && not (o == 1)
  not_root = let k = w.pages_from in let l = w.pages_to in inside_from o 2 (object_count n) (omega arith) (omega arith) (omega arith) ∙ by_bool (nat_le 2 o)
      (λ e. let h = leb-true 2 o e in rw (e, le-leb 1 o (omega arith), ne_eqb o 1 (λ z. omega arith)) (sym (and_true (nat_le o (object_count n)))))
      (λ e. let h = leb-false 2 o e in by_bool (o == 1)
      (λ z. rw (e, z) (sym (and_false (nat_le 1 o && nat_le o (object_count n)))))
      (λ z. let m : (o ≢ 1) = eqb-false o 1 z in rw (e, lt-leb 1 o (omega (arith, m)))))

  make_row : inside o 2 (object_count n - (root + 1)) && inside f 0 0 && inside a 0 0 && inside b 0 0 && (bit_and t (ones - (txn_count - 1)) == 0 && not (o == 0 && bit b 0))
      ≡ nat_lt t txn_count && ((nat_le 1 o && nat_le o (object_count n)) && not (o == 1)) && f == 0 && a == 0 && b == 0
  make_row = rw (not_root, inside_zero f, inside_zero a, inside_zero b, txn_below t w.txn)
      (row_order (nat_lt t txn_count) ((nat_le 1 o && nat_le o (object_count n)) && not (o == 1)) (f == 0) (a == 0) (b == 0) (not (o == 0 && bit b 0)) (λ p q. none_freed o b q))

  -- a sweep
  page_below : inside o 0 (n - 1) ≡ nat_lt o n
  page_below = let k = w.pages_from in inside_to o (n - 1) ∙ by_bool (nat_lt o n)
      (λ e. let h = ltb-true o n e in le-leb o (n - 1) (omega arith) ∙ sym e)
      (λ e. let h = ltb-false o n e in lt-leb o (n - 1) (omega arith) ∙ sym e)

  sweep_row : inside o 0 (n - 1) && inside f 0 0 && inside a 0 0 && inside b 0 map_top && (bit_and t ones == 0 && not (o == 0 && bit b 0))
      ≡ (t == 0) && nat_lt o n && f == 0 && a == 0 && (nat_le b map_top && not (o == 0 && bit b 0))
  sweep_row = rw (page_below, inside_zero f, inside_zero a, inside_to b map_top, txn_zero t w.txn)
      (sweep_order (t == 0) (nat_lt o n) (f == 0) (a == 0) (nat_le b map_top) (not (o == 0 && bit b 0)))

  -- a set: its field decides what its old and its new word may be
  from_one : inside o 1 (object_count n - root) ≡ (nat_le 1 o && nat_le o (object_count n)) && true
  from_one = let k = w.pages_from in let l = w.pages_to in inside_from o 1 (object_count n) (omega arith) (omega arith) (omega arith) ∙ sym (and_true (nat_le 1 o && nat_le o (object_count n)))

  field_below : inside f 0 (slot_words - 1) ≡ nat_lt f slot_words
  field_below = inside_to f (slot_words - 1) ∙ by_bool (nat_lt f slot_words)
      (λ e. let h = ltb-true f slot_words e in le-leb f (slot_words - 1) (omega arith) ∙ sym e)
      (λ e. let h = ltb-false f slot_words e in lt-leb f (slot_words - 1) (omega arith) ∙ sym e)

  set_by : (i j p q : Bool) → (f < slot_words → i ≡ p) → (f < slot_words → j ≡ q)
      → inside o 1 (object_count n - root) && inside f 0 (slot_words - 1) && i && j && (bit_and t (ones - (txn_count - 1)) == 0 && not (o == 0 && bit b 0))
      ≡ nat_lt t txn_count && ((nat_le 1 o && nat_le o (object_count n)) && true) && nat_lt f slot_words && p && q
  set_by i j p q h k = by_bool (nat_lt f slot_words)
      (λ e. rw (from_one, field_below, h (ltb-true f slot_words e), k (ltb-true f slot_words e), txn_below t w.txn)
      (row_order (nat_lt t txn_count) ((nat_le 1 o && nat_le o (object_count n)) && true) (nat_lt f slot_words) p q (not (o == 0 && bit b 0)) (λ x y. some_object o b (nat_le o (object_count n)) true x)))
      (λ e. second_false (inside o 1 (object_count n - root)) (inside f 0 (slot_words - 1)) i j _ (field_below ∙ e)
      ∙ sym (third_false (nat_lt t txn_count) ((nat_le 1 o && nat_le o (object_count n)) && true) (nat_lt f slot_words) p q e))

  set_row : f / ref_words % 2 ≡ 0 → inside o 1 (object_count n - root) && inside f 0 (slot_words - 1) && inside a 0 (object_count n) && inside b 0 (object_count n) && (bit_and t (ones - (txn_count - 1)) == 0 && not (o == 0 && bit b 0))
      ≡ nat_lt t txn_count && ((nat_le 1 o && nat_le o (object_count n)) && true) && nat_lt f slot_words && (nat_le ref_words f || nat_le a (object_count n)) && (nat_le ref_words f || nat_le b (object_count n))
  set_row d = set_by (inside a 0 (object_count n)) (inside b 0 (object_count n)) (nat_le ref_words f || nat_le a (object_count n)) (nat_le ref_words f || nat_le b (object_count n))
      (λ l. inside_to a (object_count n) ∙ sym (below a l)) (λ l. inside_to b (object_count n) ∙ sym (below b l))
    where
      below : (x : ℕ) → f < slot_words → nat_le ref_words f || nat_le x (object_count n) ≡ nat_le x (object_count n)
      below x l = rw (lt-leb ref_words f (omega arith))

  word_row : f / ref_words % 2 ≡ 1 → inside o 1 (object_count n - root) && inside f 0 (slot_words - 1) && inside a 0 ones && inside b 0 ones && (bit_and t (ones - (txn_count - 1)) == 0 && not (o == 0 && bit b 0))
      ≡ nat_lt t txn_count && ((nat_le 1 o && nat_le o (object_count n)) && true) && nat_lt f slot_words && (nat_le ref_words f || nat_le a (object_count n)) && (nat_le ref_words f || nat_le b (object_count n))
  word_row d = set_by (inside a 0 ones) (inside b 0 ones) (nat_le ref_words f || nat_le a (object_count n)) (nat_le ref_words f || nat_le b (object_count n))
      (λ l. any a w.old ∙ sym (above a l)) (λ l. any b w.new ∙ sym (above b l))
    where
      any : (x : ℕ) → x < 2 ^ 32 → inside x 0 ones ≡ true
      any x h = inside_to x ones ∙ le-leb x ones (omega arith)

      above : (x : ℕ) → f < slot_words → nat_le ref_words f || nat_le x (object_count n) ≡ true
      above x l = rw (le-leb ref_words f (omega arith))

  by_digit : (k : ℕ) → (f / ref_words % 2 ≡ 0 → row_sound n (made k t o f a b) (k + kind_rows * 0) ≡ record_sound n (made k t o f a b))
      → (f / ref_words % 2 ≡ 1 → row_sound n (made k t o f a b) (k + kind_rows * 1) ≡ record_sound n (made k t o f a b))
      → row_sound n (made k t o f a b) (k + kind_rows * (f / ref_words % 2)) ≡ record_sound n (made k t o f a b)
  by_digit k p q = at_digit (λ d. row_sound n (made k t o f a b) (k + kind_rows * d) ≡ record_sound n (made k t o f a b)) (f / ref_words % 2) (omega arith) p q

  pub by_kind : (k : ℕ) → row_sound n (made k t o f a b) (k % kind_rows + kind_rows * (f / ref_words % 2)) ≡ record_sound n (made k t o f a b)
  unfolding all row_test word_sound record_sound
  by_kind zero = by_digit 0
      (λ e. second_false (inside o 0 0) (inside f ref_words 0) (inside a 0 0) (inside b 0 0) _ (no_field f e))
      (λ e. second_false (inside o 0 0) (inside f 0 0) (inside a 0 0) (inside b 0 0) _ (no_zero f e))
  by_kind (suc zero) = by_digit 1 (λ e. end_row) (λ e. end_row)
  by_kind (suc (suc zero)) = by_digit 2 (λ e. make_row) (λ e. make_row)
  by_kind (suc (suc (suc zero))) = by_digit 3 set_row word_row
  by_kind (suc (suc (suc (suc zero)))) = by_digit 4 (λ e. end_row) (λ e. end_row)
  by_kind (suc (suc (suc (suc (suc zero))))) = by_digit 5 (λ e. end_row) (λ e. end_row)
  by_kind (suc (suc (suc (suc (suc (suc zero)))))) = by_digit 6 (λ e. make_row) (λ e. make_row)
  by_kind (suc (suc (suc (suc (suc (suc (suc zero))))))) = by_digit 7 (λ e. sweep_row) (λ e. sweep_row)
  by_kind (suc (suc (suc (suc (suc (suc (suc (suc k)))))))) = let h : kind_rows ≤ suc (suc (suc (suc (suc (suc (suc (suc k))))))) = omega arith in unknown n (_ % kind_rows + kind_rows * (f / ref_words % 2)) (made _ t o f a b) h

pub rows_sound : (n : ℕ) (r : Record) (l : List Row) (k : ℕ) → Words n r.txn r.old r.new → l ≡ rows n → k ≡ row_of r
    → row_test r (slice_index_or l k (row [] [] 0)) ≡ record_sound n r
rows_sound n r l k w e h = rw (e, h) (by_kind n r.txn r.object r.field r.old r.new w r.kind)
