-- The soundness of a page slot by slot, as the code finds it. Assumes nothing.
use Rattle.std.specs.Prelude.{ℕ, zero, suc, ◌+◌, ◌*◌, ◌-◌, ◌%◌, ◌^◌, ◌<◌, ◌≡◌, refl, Bool, true, false, not, ◌&&◌, ◌||◌, List, [], ◌∷◌, eqb, leb, get_or}
use Rattle.std.proofs.Common.{sym, ap, ◌∙◌, add-zero, arith, le-leb}
use Rattle.std.specs.List.{list_all, range_with_len}
use Rattle.std.specs.Int.Bits.{bit_and, bit_or, and_zero_r}
use Rattle.std.proofs.lemmas.Nat.{and_mask, or_lt}
use Rattle.words.specs.Tests.{all, all_both, all_same, all_intro, all_split, and_t, or_r, and_true, and_assoc, and_swap, and_cong, all_next, and_comm}
use Rattle.pages.specs.Geometry.{slot_count, slot_words, slot_at, object_count, ref_words, is_ref_at}
use Rattle.pages.specs.Objects.{taken, slot_word}
use Rattle.pages.specs.Soundness.{map_sound, ref_sound, refs_sound, slot_zero, free_zero, page_sound}
use Rattle.page_laws.specs.BitLaws.{or_none}

-- every bit of a word: the largest
abbrev pub all_ones : ℕ
all_ones = 2 ^ 32 - 1

-- 'a free slot not zero': all bits of a free slot's words are looked at, and none of those of one that is occupied
abbrev pub free_bits : Bool → ℕ
free_bits true = 0
free_bits false = all_ones

-- 'a reference above 16 × P; a free slot not zero', of the reference at i of a slot and the data word at j: t says that the slot is occupied,
-- top is the largest reference
abbrev pub column_sound : List ℕ → ℕ → ℕ → Bool → ℕ → Bool
column_sound a i j t top = leb (get_or a i 0) top && (t || (eqb (get_or a i 0) 0 && eqb (get_or a j 0) 0))

-- four words are 0
unfoldable pub none_of_four : ℕ → ℕ → ℕ → ℕ → Bool
none_of_four f0 f1 f2 f3 = eqb f0 0 && eqb f1 0 && eqb f2 0 && eqb f3 0

-- the same of word f of slot s of page p, and of the whole slot
abbrev ref_up_to : List ℕ → ℕ → ℕ → ℕ → ℕ → Bool
ref_up_to a top p s f = not (is_ref_at a p s f) || leb (slot_word a p s f) top

abbrev taken_or_zero : List ℕ → ℕ → ℕ → Bool
taken_or_zero a p s = taken a p s || slot_zero a p s

-- 'a reference above 16 × P; a free slot not zero', of slot s of page p
unfoldable pub slot_sound : List ℕ → ℕ → ℕ → ℕ → Bool
slot_sound a top p s = all (ref_up_to a top p s) slot_words && taken_or_zero a p s

-- the bits of free in a word
pub free_none : (v : ℕ) (t : Bool) → v < 2 ^ 32 → eqb (bit_and v (free_bits t)) 0 ≡ t || eqb v 0
free_none v true h = ap (λ (x : ℕ). eqb x 0) (and_zero_r v)
free_none v false h = ap (λ (x : ℕ). eqb x 0) (and_mask v 32 ∙ mod_below v h)
  where
    mod_below : (v : ℕ) → v < 2 ^ 32 → v % 2 ^ 32 ≡ v
    mod_below v h = omega arith

pub faults_none : (a : List ℕ) (before i j free up top : ℕ) (t : Bool) → get_or a i 0 < 2 ^ 32 → get_or a j 0 < 2 ^ 32 → free ≡ free_bits t → eqb up 0 ≡ leb (get_or a i 0) top
    → eqb (bit_or (bit_or before (bit_and (bit_or (get_or a i 0) (get_or a j 0)) free)) up) 0 ≡ eqb before 0 && column_sound a i j t top
faults_none a before i j free up top t hx hy e h =
    or_none (bit_or before (bit_and (bit_or x y) free)) up
    ∙ and_cong (or_none before (bit_and (bit_or x y) free) ∙ ap (λ (q : Bool). eqb before 0 && q) masked) h
    ∙ and_assoc (eqb before 0) (t || (eqb x 0 && eqb y 0)) (leb x top)
    ∙ ap (λ (q : Bool). eqb before 0 && q) (and_comm (t || (eqb x 0 && eqb y 0)) (leb x top))
  where
    x : ℕ
    x = get_or a i 0

    y : ℕ
    y = get_or a j 0

    masked : eqb (bit_and (bit_or x y) free) 0 ≡ t || (eqb x 0 && eqb y 0)
    masked = rw e (free_none (bit_or x y) t (or_lt 32 x y hx hy) ∙ ap (λ (q : Bool). t || q) (or_none x y))

-- tests taken by columns of two
four_pairs : (a b c d e f g h : Bool) → (a && e) && (b && f) && (c && g) && (d && h) ≡ (a && b && c && d) && (e && f && g && h)
four_pairs a b c d e f g h = rw (and_swap a e b f, and_swap (a && b) (e && f) c g, and_swap (a && b && c) (e && f && g) d h)

flat : (p e f g h : Bool) → p && (e && f && g && h) ≡ p && e && f && g && h
flat p e f g h = sym (and_assoc p (e && f && g) h) ∙ ap (λ (q : Bool). q && h) (sym (and_assoc p (e && f) g) ∙ ap (λ (q : Bool). q && g) (sym (and_assoc p e f)))

occupied_or : (t p q r s : Bool) → (t || p) && (t || q) && (t || r) && (t || s) ≡ t || (p && q && r && s)
occupied_or true p q r s = refl
occupied_or false p q r s = refl

columns_by : (t u0 u1 u2 u3 n0 n1 n2 n3 n4 n5 n6 n7 : Bool)
    → (u0 && (t || (n0 && n4))) && (u1 && (t || (n1 && n5))) && (u2 && (t || (n2 && n6))) && (u3 && (t || (n3 && n7)))
    ≡ (u0 && u1 && u2 && u3) && (t || (n0 && n1 && n2 && n3 && n4 && n5 && n6 && n7))
columns_by t u0 u1 u2 u3 n0 n1 n2 n3 n4 n5 n6 n7 =
    four_pairs u0 u1 u2 u3 (t || (n0 && n4)) (t || (n1 && n5)) (t || (n2 && n6)) (t || (n3 && n7))
    ∙ ap (λ (q : Bool). (u0 && u1 && u2 && u3) && q) (occupied_or t (n0 && n4) (n1 && n5) (n2 && n6) (n3 && n7)
    ∙ ap (λ (q : Bool). t || q) (four_pairs n0 n1 n2 n3 n4 n5 n6 n7 ∙ flat (n0 && n1 && n2 && n3) n4 n5 n6 n7))

-- the four columns of slot s of page p are the slot
unfoldable pub columns : List ℕ → ℕ → Bool → ℕ → Bool
columns a b t top = let d = b + ref_words in
    column_sound a b d t top && column_sound a (b + 1) (d + 1) t top && column_sound a (b + 2) (d + 2) t top && column_sound a (b + 3) (d + 3) t top

pub columns_slot : (a : List ℕ) (top p s : ℕ) → columns a (slot_at p s 0) (taken a p s) top ≡ slot_sound a top p s
unfolding all is_ref_at slot_zero slot_sound columns
columns_slot a top p s =
    columns_by (taken a p s) (up b) (up (b + 1)) (up (b + 2)) (up (b + 3)) (no b) (no (b + 1)) (no (b + 2)) (no (b + 3)) (no d) (no (d + 1)) (no (d + 2)) (no (d + 3))
    ∙ and_cong refs (ap (λ (q : Bool). taken a p s || q) zeros)
  where
    b : ℕ
    b = slot_at p s 0

    d : ℕ
    d = b + ref_words

    up : ℕ → Bool
    up i = leb (get_or a i 0) top

    no : ℕ → Bool
    no i = eqb (get_or a i 0) 0

    refs : up b && up (b + 1) && up (b + 2) && up (b + 3) ≡ all (ref_up_to a top p s) slot_words
    refs = simp (add-zero, and_true)

    at : (k : ℕ) → slot_at p s 0 + ref_words + k ≡ slot_at p s (ref_words + k)
    at k = omega arith

    zeros : no b && no (b + 1) && no (b + 2) && no (b + 3) && no d && no (d + 1) && no (d + 2) && no (d + 3) ≡ slot_zero a p s
    zeros = rw (at 1, at 2, at 3) (simp add-zero)

-- the faults of no slot, and of one more
pub slot_none : (f : ℕ → Bool) → none_of_four 0 0 0 0 ≡ all f 0
unfolding all none_of_four
slot_none f = refl

pub slot_next : (a : List ℕ) (top p k b f0 f1 f2 f3 g0 g1 g2 g3 : ℕ) → none_of_four f0 f1 f2 f3 ≡ all (slot_sound a top p) k → b ≡ slot_at p k 0
    → (let d = b + ref_words in let t = taken a p k in
    (eqb g0 0 ≡ eqb f0 0 && column_sound a b d t top) × (eqb g1 0 ≡ eqb f1 0 && column_sound a (b + 1) (d + 1) t top)
    × (eqb g2 0 ≡ eqb f2 0 && column_sound a (b + 2) (d + 2) t top) × (eqb g3 0 ≡ eqb f3 0 && column_sound a (b + 3) (d + 3) t top))
    → none_of_four g0 g1 g2 g3 ≡ all (slot_sound a top p) (k + 1)
unfolding columns none_of_four
slot_next a top p k b f0 f1 f2 f3 g0 g1 g2 g3 h q e =
    and_cong (and_cong (and_cong e.0 e.1) e.2) e.3
    ∙ four_pairs (eqb f0 0) (eqb f1 0) (eqb f2 0) (eqb f3 0) _ _ _ _
    ∙ and_cong h (ap (λ (b : ℕ). columns a b (taken a p k) top) q ∙ columns_slot a top p k)
    ∙ all_next (slot_sound a top p) k

pub faults_end : (a : List ℕ) (top p k f0 f1 f2 f3 : ℕ) → none_of_four f0 f1 f2 f3 ≡ all (slot_sound a top p) k → k ≡ slot_count
    → eqb (bit_or (bit_or (bit_or f0 f1) f2) f3) 0 ≡ all (slot_sound a top p) slot_count
unfolding none_of_four
faults_end a top p k f0 f1 f2 f3 h e = simp or_none (rw (← e) h)

-- the map and the slots, and the slots without their references: no word is above the largest
pub page_slots : (a : List ℕ) (n p : ℕ) (t : Bool) → t ≡ all (slot_sound a (object_count n) p) slot_count → (map_sound a p && t) ≡ page_sound a n p
unfolding slot_sound refs_sound free_zero page_sound
page_slots a n p t e = rw (e, all_both (λ s. all (ref_sound a n p s) slot_words) (taken_or_zero a p) slot_count) (sym (and_assoc (map_sound a p) (refs_sound a n p) (free_zero a p)))

pub slots_free : (a : List ℕ) (p : ℕ) → ((i : ℕ) → get_or a i 0 < 2 ^ 32) → all (slot_sound a all_ones p) slot_count ≡ free_zero a p
unfolding slot_sound free_zero
slots_free a p h = all_same _ _ slot_count (λ s l. and_t _ (taken_or_zero a p s) (all_intro _ slot_words (λ f k. or_r (not (is_ref_at a p s f)) _
    (let w = h (slot_at p s f) in le-leb (slot_word a p s f) all_ones (omega arith)))))

-- the bits of free in a word for each column of a free slot, and then of an occupied slot
abbrev pub free_rows : List ℕ
free_rows = all_ones ∷ all_ones ∷ all_ones ∷ all_ones ∷ 0 ∷ 0 ∷ 0 ∷ 0 ∷ []

abbrev FreeRow : ℕ → Type 0
FreeRow d = (get_or free_rows (ref_words * d) 0 ≡ free_bits (eqb d 1)) × (get_or free_rows (ref_words * d + 1) 0 ≡ free_bits (eqb d 1))
    × (get_or free_rows (ref_words * d + 2) 0 ≡ free_bits (eqb d 1)) × (get_or free_rows (ref_words * d + 3) 0 ≡ free_bits (eqb d 1))

pub free_row : (d : ℕ) → d < 2 → FreeRow d
free_row zero h = (refl, refl, refl, refl)
free_row (suc zero) h = (refl, refl, refl, refl)
free_row (suc (suc d)) h = absurd (omega arith)

-- a test over every number below a bound, as the library's `all` makes it over a range
all_from : (f : ℕ → Bool) (a n : ℕ) → list_all f (range_with_len a n) ≡ all (λ i. f (a + i)) n
unfolding all
all_from f a zero = refl
all_from f a (suc n) =
    let e : f a ≡ f (a + 0) = ap f (omega arith) in
    let d : list_all f (range_with_len (a + 1) n) ≡ all (λ i. f (a + (1 + i))) n =
    all_from f (a + 1) n ∙ all_same (λ i. f (a + 1 + i)) (λ i. f (a + (1 + i))) n (λ i l. ap f (omega arith)) in
    let k : suc n ≡ 1 + n = omega arith in
    and_cong e d ∙ sym (ap (all (λ i. f (a + i))) k ∙ all_split (λ i. f (a + i)) 1 n)

pub all_range : (f : ℕ → Bool) (n : ℕ) → list_all f (range_with_len 0 n) ≡ all f n
all_range f n = all_from f 0 n ∙ all_same (λ i. f (0 + i)) f n (λ i l. ap f (omega arith))
