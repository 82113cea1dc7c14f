-- A marking step: the scan of an object and the turn to sweeping, read as the machine's. n is the number of pages. Assumes nothing.
use Prim.Native.Nat.{ℕ, zero, suc, ◌+◌, ◌≤◌, ◌<◌}
use native.Mathlib.Omega.{arith}
use mathlib.Core.Path.{◌≡◌, refl, sym, ap, ◌∙◌}
use mathlib.Core.Bool.{Bool, true, false, not, cond, ◌&&◌}
use mathlib.Core.List.{List}
use lib.ListN.{length, length-set}
use lib.Seq.{get_or-set_same, get_or-set_other}
use lib.Dec.{ltb, eqb}
use borrow.Author.Tests.{ltb-true, eqb-true, eqb-false, eq-eqb, ne_eqb, le-leb, lt-ltb}
use Rattle.words.specs.Tests.{if, by_bool, and_split}
use Rattle.pages.specs.Geometry.{is_object, is_ref, is_ref_at, object_count, slot_words}
use Rattle.pages.specs.Objects.{occupied, word_of}
use Rattle.areas.specs.Layout.{pass_page_at, steps_at, colour_at, table_words, steps_top, colours_from, active_at}
use Rattle.areas.specs.Tables.{at, is_white, may_mark, coloured, greyed, with_pass, steps_next}
use Rattle.calls.specs.Pass.{targets_greyed, scanned}
use Rattle.collector.specs.Bits.{◌and◌, ◌or◌, anyb, false_and, true_and, and_false, and_true}
use Rattle.collector.specs.Objects as O
use Rattle.collector.specs.Objects.{points}
use Rattle.collector.specs.State as M
use Rattle.collector.specs.State.{Colour, white, grey, black, white_to_grey}
use Rattle.machine_view.specs.View.{view}
use Rattle.machine_calls.specs.Tables.{colour_of, colour_at_object, phase_of, locks_of, tables_of, pass_of}
use Rattle.page_laws.specs.Places.{object_range}
use Rattle.machine_pass.proofs.Kept.{locks_kept, tables_kept, colour_kept, pass_other, pass_phase, pass_page, pass_steps}
use Rattle.words.specs.Spans.{room_kept}

-- the machine's greying, twice and not at all
grey_twice : (a b : Bool) (c : Colour) → M.greyed a (M.greyed b c) ≡ M.greyed (a or b) c
unfolding M.greyed ◌or◌
grey_twice true true white = refl
grey_twice true true grey = refl
grey_twice true true black = refl
grey_twice true false c = refl
grey_twice false b c = refl

pub grey_none : (c : Colour) → M.greyed false c ≡ c
unfolding M.greyed
grey_none c = refl

marked_grey : (k : ℕ) → (k ≡ 0 → ⊥) → white_to_grey (colour_of k) ≡ colour_of k
marked_grey zero h = absurd (h refl)
marked_grey (suc zero) h = refl
marked_grey (suc (suc k)) h = refl

-- a word that is no object's colour: one below them, or behind them
abbrev pub NoColour : ℕ → ℕ → Type 0
NoColour n i = (y : ℕ) → is_object n y ≡ true → i ≡ colour_at n y → ⊥

pub below_colours : (n i : ℕ) → i < colours_from n → NoColour n i
below_colours n i l y o z = let k = (object_range n y o).0 in omega arith

pub behind_colours : (n i : ℕ) → table_words n ≤ i → NoColour n i
behind_colours n i l y o z = let k = (object_range n y o).0 in let m = (object_range n y o).1 in omega arith

colour_apart : (n x y : ℕ) → 1 ≤ x → 1 ≤ y → (x ≡ y → ⊥) → colour_at n x ≡ colour_at n y → ⊥
colour_apart n x y hx hy d e = d (omega arith)

module _ (n : ℕ) (w : List ℕ) (len : table_words n ≤ length w) where
  -- one object's colour written
  pub coloured_view : (y c x : ℕ) → is_object n y ≡ true → colour_at_object (coloured w n y c) n x ≡ cond (eqb x y) (colour_of c) (colour_at_object w n x)
  unfolding colour_at_object
  coloured_view y c x ok = let r = object_range n y ok in let ly = r.0 in let uy = r.1 in by_bool (eqb x y)
      (λ e. rw (e, eqb-true x y e, ok, get_or-set_same w (colour_at n y) c 0 (omega arith)) refl)
      (λ e. rw e (by_bool (is_object n x)
      (λ o. let q = object_range n x o in rw (o, get_or-set_other w (colour_at n y) (colour_at n x) c 0 (colour_apart n x y q.0 ly (eqb-false x y e))) refl)
      (λ o. rw o refl)))

  white_greys : (y : ℕ) → is_object n y ≡ true → eqb (at w (colour_at n y)) 0 ≡ true → grey ≡ white_to_grey (colour_at_object w n y)
  unfolding colour_at_object
  white_greys y o z = rw (o, eqb-true (at w (colour_at n y)) 0 z) refl

  marked_stays : (y : ℕ) → is_object n y ≡ true → eqb (at w (colour_at n y)) 0 ≡ false → colour_at_object w n y ≡ white_to_grey (colour_at_object w n y)
  unfolding colour_at_object
  marked_stays y o z = rw o (sym (marked_grey (at w (colour_at n y)) (eqb-false (at w (colour_at n y)) 0 z)))

  -- a target turns grey
  pub greyed_view : (y x : ℕ) → colour_at_object (greyed w n y) n x ≡ M.greyed (is_object n y and eqb x y) (colour_at_object w n x)
  unfolding greyed M.greyed
  greyed_view y x = by_bool (is_object n y)
      (λ o. by_bool (eqb (at w (colour_at n y)) 0)
      (λ z. rw (o, z, true_and (eqb x y), coloured_view y 1 x o) (by_bool (eqb x y)
      (λ e. rw (e, eqb-true x y e) (white_greys y o z))
      (λ e. rw e refl)))
      (λ z. rw (o, z, true_and (eqb x y)) (by_bool (eqb x y)
      (λ e. rw (e, eqb-true x y e) (marked_stays y o z))
      (λ e. rw e refl))))
      (λ o. rw (o, false_and (eqb x y)) refl)

  pub length_greyed : (y : ℕ) → length (greyed w n y) ≡ length w
  unfolding greyed
  length_greyed y = by_bool (may_mark w n y && is_white w n y) (λ e. rw e (length-set w (colour_at n y) 1)) (λ e. rw e refl)

  pub greyed_other : (y i : ℕ) → NoColour n i → at (greyed w n y) i ≡ at w i
  unfolding greyed
  greyed_other y i l = by_bool (may_mark w n y && is_white w n y)
      (λ e. rw e (get_or-set_other w (colour_at n y) i 1 0 (l y (and_split (may_mark w n y) (is_white w n y) e).0))) (λ e. rw e refl)

-- references that name no object are nothing
target_test : (n x y : ℕ) → y ≤ object_count n → (is_object n y and eqb x y) ≡ (not (eqb x 0) and eqb y x)
target_test n x y u = by_bool (eqb x y)
    (λ e. let q = eqb-true x y e in rw (e, eq-eqb y x (sym q), and_true (is_object n y), and_true (not (eqb x 0)), q) (by_bool (eqb y 0)
    (λ z. rw (z, eqb-true y 0 z) refl)
    (λ z. let k = eqb-false y 0 z in rw (z, le-leb 1 y (omega arith), le-leb y (object_count n) u) refl)))
    (λ e. rw (e, ne_eqb y x (λ z. eqb-false x y e (sym z)), and_false (is_object n y), and_false (not (eqb x 0))) refl)

-- object o of area a refers to x by one of its first k words
unfoldable pub hits : List ℕ → ℕ → ℕ → ℕ → Bool
hits a o k x = not (eqb x 0) and anyb k (λ f. ltb f 4 and eqb (word_of a o f) x)

hits_next : (a : List ℕ) (o k x : ℕ) → hits a o (suc k) x ≡ ((ltb k 4 and (not (eqb x 0) and eqb (word_of a o k) x)) or hits a o k x)
unfolding hits anyb ◌and◌ ◌or◌
hits_next a o k x = go (not (eqb x 0)) (ltb k 4) (eqb (word_of a o k) x) (anyb k (λ f. ltb f 4 and eqb (word_of a o f) x))
  where
    go : (p q r t : Bool) → (p and (q and r or t)) ≡ (q and (p and r) or (p and t))
    go true true r t = refl
    go true false r t = refl
    go false true r t = refl
    go false false r t = refl

hits_none : (a : List ℕ) (o x : ℕ) → hits a o 0 x ≡ false
unfolding hits anyb
hits_none a o x = and_false (not (eqb x 0))

or_none : (b : Bool) → (false or b) ≡ b
unfolding ◌or◌
or_none b = refl

module _ (n : ℕ) (copies : List ℕ) (o : ℕ) (refs : (f : ℕ) → f < 4 → word_of copies o f ≤ object_count n) where
  pub length_targets : (w : List ℕ) → table_words n ≤ length w → (k : ℕ) → length (targets_greyed copies w n o k) ≡ length w
  unfolding targets_greyed
  length_targets w len zero = refl
  length_targets w len (suc k) = by_bool (is_ref copies o k)
      (λ e. rw e (length_greyed n (targets_greyed copies w n o k) (room_kept (table_words n) (length_targets w len k) len) (word_of copies o k) ∙ length_targets w len k))
      (λ e. rw e (length_targets w len k))

  pub targets_other : (w : List ℕ) → table_words n ≤ length w → (k i : ℕ) → NoColour n i → at (targets_greyed copies w n o k) i ≡ at w i
  unfolding targets_greyed
  targets_other w len zero i l = refl
  targets_other w len (suc k) i l = by_bool (is_ref copies o k)
      (λ e. rw e (greyed_other n (targets_greyed copies w n o k) (room_kept (table_words n) (length_targets w len k) len) (word_of copies o k) i l ∙ targets_other w len k i l))
      (λ e. rw e (targets_other w len k i l))

  pub targets_view : (w : List ℕ) → table_words n ≤ length w → (k x : ℕ)
      → colour_at_object (targets_greyed copies w n o k) n x ≡ M.greyed (hits copies o k x) (colour_at_object w n x)
  unfolding targets_greyed is_ref_at
  targets_view w len zero x = rw (hits_none copies o x) (sym (grey_none (colour_at_object w n x)))
  targets_view w len (suc k) x = by_bool (ltb k 4)
      (λ e. rw (e, hits_next copies o k x, e, true_and (not (eqb x 0) and eqb (word_of copies o k) x))
      (greyed_view n (targets_greyed copies w n o k) (room_kept (table_words n) (length_targets w len k) len) (word_of copies o k) x
      ∙ rw (targets_view w len k x, target_test n x (word_of copies o k) (refs k (ltb-true k 4 e))) (grey_twice (not (eqb x 0) and eqb (word_of copies o k) x) (hits copies o k x) (colour_at_object w n x))))
      (λ e. rw (e, hits_next copies o k x, e, false_and (not (eqb x 0) and eqb (word_of copies o k) x)) (targets_view w len k x ∙ rw (or_none (hits copies o k x)) refl))

and_nested : (p q s : Bool) → (p and q and s) ≡ (p and (q and s))
unfolding ◌and◌
and_nested true q s = refl
and_nested false q s = refl

anyb_same : (k : ℕ) (p q : ℕ → Bool) → ((f : ℕ) → f < k → p f ≡ q f) → anyb k p ≡ anyb k q
unfolding anyb
anyb_same zero p q h = refl
anyb_same (suc k) p q h = rw (h k (omega arith), anyb_same k p q (λ f l. h f (omega arith))) refl

-- the machine's edges of an object of an area
pub points_view : (a : List ℕ) (o x : ℕ) → 1 ≤ o → points (view a o) x ≡ (occupied a o and hits a o 8 x)
unfolding points view hits O.fields O.is_ref
points_view a o x l = rw (le-leb 1 o l) (assoc (occupied a o) (not (eqb x 0))
    (anyb 8 (λ f. ltb f 4 and eqb (if (ltb f slot_words) (word_of a o f) 0) x))
    (anyb 8 (λ f. ltb f 4 and eqb (word_of a o f) x))
    (anyb_same 8 _ _ (λ f k. rw (lt-ltb f slot_words k) refl)))
  where
    assoc : (p q r s : Bool) → r ≡ s → (p and q and r) ≡ (p and (q and s))
    assoc p q r s e = rw e (and_nested p q s)

-- what a scan leaves of the words below the colours
module _ (n : ℕ) (copies w : List ℕ) (o : ℕ) (refs : (f : ℕ) → f < 4 → word_of copies o f ≤ object_count n) (len : table_words n ≤ length w) (ok : is_object n o ≡ true) where
  targets : List ℕ
  targets = if (occupied copies o) (targets_greyed copies w n o 8) w

  length_kept : table_words n ≤ length targets
  unfolding targets
  length_kept = by_bool (occupied copies o) (λ e. rw e (room_kept (table_words n) (length_targets n copies o refs w len 8) len)) (λ e. rw e len)

  other_kept : (i : ℕ) → NoColour n i → at targets i ≡ at w i
  unfolding targets
  other_kept i l = by_bool (occupied copies o) (λ e. rw e (targets_other n copies o refs w len 8 i l)) (λ e. rw e refl)

  colours : (x : ℕ) → colour_at_object targets n x ≡ M.greyed (points (view copies o) x) (colour_at_object w n x)
  unfolding targets
  colours x = rw (points_view copies o x (object_range n o ok).0) (by_bool (occupied copies o)
      (λ e. rw (e, true_and (hits copies o 8 x)) (targets_view n copies o refs w len 8 x))
      (λ e. rw (e, false_and (hits copies o 8 x)) (sym (grey_none (colour_at_object w n x)))))

  pub length_scanned : table_words n ≤ length (scanned copies w n o)
  unfolding scanned targets
  length_scanned = room_kept (table_words n) (length-set targets (colour_at n o) 2) length_kept

  pub scanned_other : (i : ℕ) → NoColour n i → at (scanned copies w n o) i ≡ at w i
  unfolding scanned targets
  scanned_other i l = get_or-set_other targets (colour_at n o) i 2 0 (l o ok) ∙ other_kept i l

  pub scanned_view : (x : ℕ) → colour_at_object (scanned copies w n o) n x ≡ cond (eqb x o) black (M.greyed (points (view copies o) x) (colour_at_object w n x))
  unfolding scanned targets
  scanned_view x = coloured_view n targets length_kept o 2 x ok ∙ rw (colours x) refl

-- a step's number, below the bound
pub steps_suc : (w : List ℕ) (n : ℕ) → at w steps_at < steps_top n → steps_next w n ≡ suc (at w steps_at)
steps_suc w n l = let k : at w steps_at + 1 ≤ steps_top n = omega arith in omega arith

module _ (n : ℕ) (copies w : List ℕ) (o : ℕ) (refs : (f : ℕ) → f < 4 → word_of copies o f ≤ object_count n) (len : table_words n ≤ length w) (ok : is_object n o ≡ true)
    (low : 1 ≤ n) (room : at w steps_at < steps_top n) where
  abbrev pub scan : List ℕ
  scan = with_pass (scanned copies w n o) 1 (at w pass_page_at) (steps_next w n)

  long : 5 ≤ length (scanned copies w n o)
  long = let e = length_scanned n copies w o refs len ok in omega arith

  scan_low : (i : ℕ) → active_at ≤ i → i < colours_from n → at scan i ≡ at w i
  scan_low i l u = pass_other (scanned copies w n o) 1 (at w pass_page_at) (steps_next w n) long i (λ z. omega arith) (λ z. omega arith) (λ z. omega arith)
      ∙ scanned_other n copies w o refs len ok i (below_colours n i u)

  pub scan_locks : locks_of scan n ≡ locks_of w n
  scan_locks = locks_kept scan w n (λ i l u. scan_low i l (omega arith))

  pub scan_tables : tables_of scan n ≡ tables_of w n
  scan_tables = tables_kept scan w n (λ i l u. scan_low i (omega arith) u)

  scan_colours : (x : ℕ) → colour_at_object scan n x ≡ cond (eqb x o) black (M.greyed (points (view copies o) x) (colour_at_object w n x))
  scan_colours x = ap (λ (h : ℕ → Colour). h x) (colour_kept scan (scanned copies w n o) n (λ i l u.
      pass_other (scanned copies w n o) 1 (at w pass_page_at) (steps_next w n) long i (λ z. omega arith) (λ z. omega arith) (λ z. omega arith)))
      ∙ scanned_view n copies w o refs len ok x

  pub scan_pass : pass_of scan n ≡ record {
    phase = M.marking;
    at = at w pass_page_at;
    steps = suc (at w steps_at);
    col = λ x. cond (eqb x o) black (M.greyed (points (view copies o) x) (colour_at_object w n x));
  }
  scan_pass = λ i. record {
    phase = ap phase_of (pass_phase (scanned copies w n o) 1 (at w pass_page_at) (steps_next w n) long) i;
    at = pass_page (scanned copies w n o) 1 (at w pass_page_at) (steps_next w n) long i;
    steps = (pass_steps (scanned copies w n o) 1 (at w pass_page_at) (steps_next w n) long ∙ steps_suc w n room) i;
    col = λ x. scan_colours x i;
  }

-- a change of the pass record alone
module _ (n : ℕ) (w : List ℕ) (phase page steps : ℕ) (len : table_words n ≤ length w) where
  abbrev pub moved : List ℕ
  moved = with_pass w phase page steps

  moved_other : (i : ℕ) → active_at ≤ i → at moved i ≡ at w i
  moved_other i l = pass_other w phase page steps (omega arith) i (λ z. omega arith) (λ z. omega arith) (λ z. omega arith)

  pub moved_locks : locks_of moved n ≡ locks_of w n
  moved_locks = locks_kept moved w n (λ i l u. moved_other i l)

  pub moved_tables : tables_of moved n ≡ tables_of w n
  moved_tables = tables_kept moved w n (λ i l u. moved_other i (omega arith))

  pub moved_pass : pass_of moved n ≡ record { phase = phase_of phase; at = page; steps = steps; col = colour_at_object w n }
  moved_pass = λ i. record {
    phase = ap phase_of (pass_phase w phase page steps (omega arith)) i;
    at = pass_page w phase page steps (omega arith) i;
    steps = pass_steps w phase page steps (omega arith) i;
    col = colour_kept moved w n (λ j l u. moved_other j (omega arith)) i;
  }
