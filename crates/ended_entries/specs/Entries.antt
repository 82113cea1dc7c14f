-- Masks of the PRT and the COT once a transaction has ended, one by one and in runs. Assumes nothing.
use Rattle.std.specs.Prelude.{ℕ, zero, suc, ◌+◌, ◌/◌, ◌%◌, ◌^◌, ◌<◌, ◌≤◌, ◌≡◌, refl, true, false, List, [], ◌∷◌, length, take, drop, get_or, eqb}
use mathlib.Core.List.{◌++◌}
use Rattle.std.proofs.Common.{sym, ap, ◌∙◌, add-one, length-append, length-drop, length-take-le, get_or-take, get_or-drop, arith}
use Rattle.std.proofs.lemmas.List.{set-get_or, get_or_at, get_or_append_left}
use Rattle.std.specs.Int.Bits.{bit_or, or_zero_r, or_step}
use Rattle.std.proofs.lemmas.Nat.{or_shr}
use borrow.Author.Tests.{eq-eqb, ne_eqb, eqb-false}
use Rattle.words.specs.Tests.{if, by_bool, clash}
use Rattle.words.specs.Bits.{bit, without_bit, without_same}
use Rattle.words.specs.Spans.{over}
use Rattle.page_laws.specs.BitLaws.{or_bit}
use Rattle.areas.specs.Tables.{at, flag, pass_runs}
use Rattle.calls.specs.Transactions.{leaves, ended_entry, ended_entries}
use Rattle.store_ops.specs.Tables.{over_join}

-- two runs that follow one another, as a loop over runs needs them: x after the first run, y after the second
pub over_then : (f : ℕ → ℕ) (w : List ℕ) (a m k : ℕ) (x y : List ℕ) (b n : ℕ) → x ≡ over f w a m → y ≡ over f x b k → b ≡ a + m → n ≡ m + k → y ≡ over f w a n
over_then f w a m k x y b n h e p q = e ∙ rw (h, p, q) (over_join f w a m k)

-- t leaves a mask, and where it was in it while a pass runs the flag stands for it
module _ (m t : ℕ) where
  pub entry_left : without_bit m t ≡ ended_entry false t m
  unfolding without_bit
  entry_left = by_bool (bit m t) (λ e. rw e) (λ e. rw e)

  -- f: the flag, or nothing where the mask without t, x, is the mask
  pub entry_flagged : (x f : ℕ) → x ≡ without_bit m t → f ≡ if (eqb x m) 0 (2 ^ flag) → bit_or x f ≡ ended_entry true t m
  unfolding without_bit
  entry_flagged x f e k = by_bool (bit m t)
      (λ b. rw (k, ne_eqb x m (λ z. clash b (ap (λ (y : ℕ). bit y t) (sym z ∙ e) ∙ without_same m t)), b) (or_bit flag x ∙ rw e (rw b)))
      (λ b. let z : x ≡ m = rw b at e in rw (k, eq-eqb x m z, b) (or_zero_r x ∙ z))

-- the same of a run of masks
over_same : (f g : ℕ → ℕ) → ((m : ℕ) → f m ≡ g m) → (w : List ℕ) (a k : ℕ) → over f w a k ≡ over g w a k
unfolding over
over_same f g h w a zero = refl
over_same f g h w a (suc k) = rw (over_same f g h w a k, h)

pub entries_left : (w : List ℕ) (a k t : ℕ) (x : List ℕ) → pass_runs w ≡ false → x ≡ leaves t w a k → x ≡ ended_entries t w a k
entries_left w a k t x idle e = e ∙ rw idle (over_same _ _ (λ m. entry_left m t) w a k)

pub entries_run : (w : List ℕ) (a k t : ℕ) (x : List ℕ) → pass_runs w ≡ true → x ≡ over (ended_entry true t) w a k → x ≡ ended_entries t w a k
entries_run w a k t x runs e = e ∙ rw runs

-- the k masks from word a, joined
unfoldable pub joined : List ℕ → ℕ → ℕ → ℕ
joined w a zero = 0
joined w a (suc k) = bit_or (joined w a k) (at w (a + k))

joined_same : (v w : List ℕ) (a b n : ℕ) → ((k : ℕ) → k < n → get_or v (a + k) 0 ≡ get_or w (b + k) 0) → joined v a n ≡ joined w b n
unfolding joined
joined_same v w a b zero h = refl
joined_same v w a b (suc k) h = rw (joined_same v w a b k (λ i l. h i (omega arith)), h k (omega arith))

-- all masks of a list, as a fold joins them: one mask more
unfoldable pub all_joined : List ℕ → ℕ
all_joined v = joined v 0 (length v)

pub none_joined : 0 ≡ all_joined []
unfolding all_joined joined
none_joined = refl

pub joined_more : (v : List ℕ) (m : ℕ) → bit_or (all_joined v) m ≡ all_joined (v ++ m ∷ [])
unfolding all_joined joined
joined_more v m =
    let z : List ℕ = v ++ m ∷ [] in
    let n = length v in
    let e : length z ≡ suc n = length-append v (m ∷ []) ∙ add-one n in
    let last : get_or z (0 + n) 0 ≡ m = ap (λ (i : ℕ). get_or z i 0) (omega arith) ∙ get_or_at v m [] 0 n refl in
    let before : joined z 0 n ≡ joined v 0 n =
    joined_same z v 0 0 n (λ k l. get_or_append_left v (m ∷ []) 0 (0 + k) (omega arith)) in
    sym (ap (joined z 0) e ∙ ap (λ (x : ℕ). bit_or x (get_or z (0 + n) 0)) before ∙ ap (bit_or (joined v 0 n)) last)

-- the masks of a part of a list
pub part_joined : (w : List ℕ) (a n k x : ℕ) → a + n ≤ length w → k ≡ n → x ≡ all_joined (take k (drop a w)) → x ≡ joined w a n
unfolding all_joined
part_joined w a n k x h q e =
    let d = length-drop a w in
    let l : length (take k (drop a w)) ≡ n = length-take-le k (drop a w) (omega arith) ∙ q in
    e ∙ ap (joined (take k (drop a w)) 0) l ∙ joined_same (take k (drop a w)) w 0 a n
    (λ j b. get_or-take k (drop a w) (0 + j) 0 (omega arith) ∙ get_or-drop a w (0 + j) 0 ∙ ap (λ (i : ℕ). get_or w i 0) (omega arith))

-- who is not in two masks together is in neither
or_apart : (a b t : ℕ) → bit (bit_or a b) t ≡ false → (bit a t ≡ false) × (bit b t ≡ false)
or_apart a b t h =
    let n = eqb-false (bit_or a b / 2 ^ t % 2) 1 h in
    let e = or_shr a b t in
    let s = or_step (a / 2 ^ t) (b / 2 ^ t) in
    (ne_eqb (a / 2 ^ t % 2) 1 (λ z. n (omega arith)), ne_eqb (b / 2 ^ t % 2) 1 (λ z. n (omega arith)))

-- masks without t stay as they are
pub run_kept : (w : List ℕ) (a k t : ℕ) → bit (joined w a k) t ≡ false → over (ended_entry true t) w a k ≡ w
unfolding joined over
run_kept w a zero t h = refl
run_kept w a (suc k) t h = let b = or_apart (joined w a k) (at w (a + k)) t h in
    rw (run_kept w a k t b.0, b.1) (set-get_or w (a + k) 0)
