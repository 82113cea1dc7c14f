-- What a change of some of the working tables' words leaves: every table whose words lie elsewhere. n is the number of pages.
-- Assumes nothing.
use Prim.Native.Nat.{ℕ, suc, ◌+◌, ◌-◌, ◌<◌, ◌≤◌}
use native.Mathlib.Omega.{arith}
use mathlib.Core.Path.{◌≡◌, refl, sym, ap, ◌∙◌, fun_ext}
use mathlib.Core.Bool.{Bool, true, false}
use mathlib.Core.List.{List}
use mathlib.Core.Logic.{◌⊎◌, inl, inr}
use lib.ListN.{length, set, length-set}
use lib.Seq.{get_or-set_other}
use lib.Dec.{ltb}
use borrow.Author.Tests.{ltb-true, lt-ltb, le-leb}
use Rattle.words.specs.Tests.{by_bool}
use Rattle.words.specs.Bits.{bit, with_bit, without_bit}
use Rattle.words.specs.Spans.{over, fill, length_over, length_fill, over_outside, fill_outside}
use Rattle.pages.specs.Geometry.{is_object, object_count}
use Rattle.areas.specs.Layout.{reopening_at, reopening_page_at, phase_at, pass_page_at, steps_at, active_at, readers_at, writers_at, unflushed_at, colour_at, table_words}
use Rattle.areas.specs.Tables.{at, has, gain, lose, flag}
use Rattle.collector.specs.Bits.{◌and◌, true_and}
use Rattle.collector.specs.State.{Locks, Tables, Pass}
use Rattle.page_laws.specs.Places.{object_range}
use Rattle.machine_calls.specs.Tables.{page_bit, object_bit, flag_bit, colour_at_object, phase_of, locks_of, tables_of, pass_of}
use Rattle.records.specs.Records.{txn_count}

-- the machine's parts from their fields
pub locks_ext : (l m : Locks) → ((t : ℕ) → l.act t ≡ m.act t) → l.rd ≡ m.rd → l.wr ≡ m.wr → l ≡ m
locks_ext l m act rd wr = λ i. record { act = λ t. act t i; rd = rd i; wr = wr i }

pub tables_ext : (a b : Tables) → a.kn ≡ b.kn → a.prt ≡ b.prt → a.cot ≡ b.cot → a.cot_f ≡ b.cot_f → a.dirty ≡ b.dirty → a ≡ b
tables_ext a b kn prt cot cot_f dirty = λ i. record { kn = kn i; prt = prt i; cot = cot i; cot_f = cot_f i; dirty = dirty i }

pub pass_ext : (a b : Pass) → a.phase ≡ b.phase → a.at ≡ b.at → a.steps ≡ b.steps → a.col ≡ b.col → a ≡ b
pass_ext a b phase at steps col = λ i. record { phase = phase i; at = at i; steps = steps i; col = col i }

-- v is w but for the words from a up to b
pub record Beside (a b : ℕ) (w v : List ℕ) : Type 0 where
  pub same_length : length v ≡ length w
  pub below : (i : ℕ) → i < a → at v i ≡ at w i
  pub above : (i : ℕ) → b ≤ i → at v i ≡ at w i

pub beside_set : (w : List ℕ) (i x : ℕ) → Beside i (suc i) w (set w i x)
beside_set w i x = record {
  same_length = length-set w i x;
  below = λ j l. get_or-set_other w i j x 0 (λ z. omega arith);
  above = λ j l. get_or-set_other w i j x 0 (λ z. omega arith);
}

pub beside_gain : (w : List ℕ) (i t : ℕ) → Beside i (suc i) w (gain w i t)
beside_gain w i t = beside_set w i (with_bit (at w i) t)

pub beside_lose : (w : List ℕ) (i t : ℕ) → Beside i (suc i) w (lose w i t)
beside_lose w i t = beside_set w i (without_bit (at w i) t)

pub beside_over : (f : ℕ → ℕ) (w : List ℕ) (a k : ℕ) → Beside a (a + k) w (over f w a k)
beside_over f w a k = record {
  same_length = length_over f w a k;
  below = λ j l. over_outside f w a k j 0 (λ i h z. omega arith);
  above = λ j l. over_outside f w a k j 0 (λ i h z. omega arith);
}

pub beside_fill : (g : ℕ → ℕ) (w : List ℕ) (a k : ℕ) → Beside a (a + k) w (fill g w a k)
beside_fill g w a k = record {
  same_length = length_fill g w a k;
  below = λ j l. fill_outside g w a k j 0 (λ i h z. omega arith);
  above = λ j l. fill_outside g w a k j 0 (λ i h z. omega arith);
}

pub beside_self : (a b : ℕ) (w : List ℕ) → Beside a b w w
beside_self a b w = record { same_length = refl; below = λ i l. refl; above = λ i l. refl }

-- the change as one within a longer run, and two changes one after the other
pub wider : {a b c d : ℕ} {w v : List ℕ} → Beside a b w v → c ≤ a → b ≤ d → Beside c d w v
wider e h l = record { same_length = e.same_length; below = λ i k. e.below i (omega arith); above = λ i k. e.above i (omega arith) }

pub later : {a b : ℕ} {u v w : List ℕ} → Beside a b w v → Beside a b v u → Beside a b w u
later e f = record {
  same_length = f.same_length ∙ e.same_length;
  below = λ i l. f.below i l ∙ e.below i l;
  above = λ i l. f.above i l ∙ e.above i l;
}

-- the change taken back
pub beside_back : {a b : ℕ} {w v : List ℕ} → Beside a b w v → Beside a b v w
beside_back e = record { same_length = sym e.same_length; below = λ i l. sym (e.below i l); above = λ i l. sym (e.above i l) }

-- the words from c up to d are none of those from a up to b
abbrev pub Apart : ℕ → ℕ → ℕ → ℕ → Type 0
Apart a b c d = (b ≤ c) ⊎ (d ≤ a)

pub kept : {a b : ℕ} {w v : List ℕ} → Beside a b w v → {c d : ℕ} → Apart a b c d → (i : ℕ) → c ≤ i → i < d → at v i ≡ at w i
kept e (inl h) i l k = e.above i (omega arith)
kept e (inr h) i l k = e.below i (omega arith)

-- a table by page, and one by object, with its first word at c
abbrev pub by_page : ℕ → ℕ → ℕ
by_page c p = c + p

abbrev pub by_object : ℕ → ℕ → ℕ
by_object c o = c + (o - 1)

-- behind a test that holds
pub under : (b : Bool) {x y : Bool} → (b ≡ true → x ≡ y) → (b and x) ≡ (b and y)
unfolding ◌and◌
under true h = h refl
under false h = refl

pub is_object_law : (n x : ℕ) → 1 ≤ x → x ≤ object_count n → is_object n x ≡ true
is_object_law n x low top = rw (le-leb 1 x low) (le-leb x (object_count n) top)

-- a bit in range is its word's
pub page_bit_law : (w : List ℕ) (n : ℕ) (place : ℕ → ℕ) (t p : ℕ) → t < txn_count → p < n → page_bit w n place t p ≡ has w (place p) t
unfolding page_bit
page_bit_law w n place t p s h = rw (lt-ltb t txn_count s, lt-ltb p n h, true_and) (true_and (has w (place p) t))

-- each table's reading from its words
module _ (w v : List ℕ) (n c : ℕ) where
  pub page_same : ((p : ℕ) → p < n → at v (c + p) ≡ at w (c + p)) → page_bit v n (by_page c) ≡ page_bit w n (by_page c)
  unfolding page_bit
  page_same h = λ i t p. ltb t txn_count and under (ltb p n) (λ l. ap (λ (m : ℕ). bit m t) (h p (ltb-true p n l))) i

  pub object_same : ((x : ℕ) → is_object n x ≡ true → at v (by_object c x) ≡ at w (by_object c x)) → object_bit v n (by_object c) ≡ object_bit w n (by_object c)
  unfolding object_bit
  object_same h = λ i t x. ltb t txn_count and under (is_object n x) (λ l. ap (λ (m : ℕ). bit m t) (h x l)) i

  pub flag_same : ((x : ℕ) → is_object n x ≡ true → at v (by_object c x) ≡ at w (by_object c x)) → flag_bit v n (by_object c) ≡ flag_bit w n (by_object c)
  unfolding flag_bit
  flag_same h = λ i x. under (is_object n x) (λ l. ap (λ (m : ℕ). bit m flag) (h x l)) i

pub colour_same : (w v : List ℕ) (n : ℕ) → ((x : ℕ) → is_object n x ≡ true → at v (colour_at n x) ≡ at w (colour_at n x)) → colour_at_object v n ≡ colour_at_object w n
unfolding colour_at_object
colour_same w v n h = fun_ext (λ x. by_bool (is_object n x) (λ l. rw (l, h x l)) (λ l. rw l))

module _ {a b : ℕ} {w v : List ℕ} (e : Beside a b w v) (n c : ℕ) where
  pub page_kept : Apart a b c (c + n) → page_bit v n (by_page c) ≡ page_bit w n (by_page c)
  page_kept h = page_same w v n c (λ p l. kept e h (c + p) (omega arith) (omega arith))

  pub object_at : Apart a b c (c + object_count n) → (x : ℕ) → is_object n x ≡ true → at v (by_object c x) ≡ at w (by_object c x)
  object_at h x l = let k = (object_range n x l).0 in let m = (object_range n x l).1 in kept e h (c + (x - 1)) (omega arith) (omega arith)

  pub object_kept : Apart a b c (c + object_count n) → object_bit v n (by_object c) ≡ object_bit w n (by_object c)
  object_kept h = object_same w v n c (object_at h)

  pub flag_kept : Apart a b c (c + object_count n) → flag_bit v n (by_object c) ≡ flag_bit w n (by_object c)
  flag_kept h = flag_same w v n c (object_at h)

-- the machine's parts
module _ {a b : ℕ} {w v : List ℕ} (e : Beside a b w v) (n : ℕ) where
  pub active_kept : Apart a b active_at (suc active_at) → (t : ℕ) → (ltb t txn_count and has v active_at t) ≡ (ltb t txn_count and has w active_at t)
  active_kept h t = ap (λ (m : ℕ). ltb t txn_count and bit m t) (kept e h active_at (omega arith) (omega arith))

  pub locks_kept : Apart a b active_at (unflushed_at n 0) → locks_of v n ≡ locks_of w n
  locks_kept h = locks_ext _ _ (λ t. ap (λ (m : ℕ). ltb t txn_count and bit m t) (kept e h active_at (omega arith) (omega arith)))
      (page_same w v n _ (λ p l. kept e h (readers_at n p) (omega arith) (omega arith)))
      (page_same w v n _ (λ p l. kept e h (writers_at n p) (omega arith) (omega arith)))

  pub tables_kept : Apart a b (unflushed_at n 0) (colour_at n 1) → tables_of v n ≡ tables_of w n
  tables_kept h = tables_ext _ _ (object_same w v n _ (word _ (omega arith) (omega arith)))
      (object_same w v n _ (word _ (omega arith) (omega arith)))
      (object_same w v n _ (word _ (omega arith) (omega arith)))
      (flag_same w v n _ (word _ (omega arith) (omega arith)))
      (page_same w v n _ (λ p l. kept e h (unflushed_at n p) (omega arith) (omega arith)))
    where
      word : (c : ℕ) → unflushed_at n 0 ≤ c → c + object_count n ≤ colour_at n 1 → (x : ℕ) → is_object n x ≡ true → at v (by_object c x) ≡ at w (by_object c x)
      word c l u x k = let low = (object_range n x k).0 in let top = (object_range n x k).1 in kept e h (by_object c x) (omega arith) (omega arith)

  pub colours_kept : Apart a b (colour_at n 1) (table_words n) → colour_at_object v n ≡ colour_at_object w n
  colours_kept h = colour_same w v n (λ x k. let low = (object_range n x k).0 in let top = (object_range n x k).1 in kept e h (colour_at n x) (omega arith) (omega arith))

  pub pass_kept : Apart a b phase_at active_at → Apart a b (colour_at n 1) (table_words n) → pass_of v n ≡ pass_of w n
  pass_kept h k = pass_ext _ _ (ap phase_of (kept e h phase_at (omega arith) (omega arith)))
      (kept e h pass_page_at (omega arith) (omega arith))
      (kept e h steps_at (omega arith) (omega arith))
      (colours_kept k)

  -- the words of a reopening
  pub reopening_kept : 2 ≤ a → (at v reopening_at ≡ at w reopening_at) × (at v reopening_page_at ≡ at w reopening_page_at)
  reopening_kept h = (e.below reopening_at (omega arith), e.below reopening_page_at (omega arith))
