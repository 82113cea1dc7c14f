-- Laws of lines struck out, and the newest line that is left. Assumes nothing.
use Prim.Native.Nat.{ℕ, zero, suc, ◌+◌}
use native.Mathlib.Omega.{arith}
use mathlib.Core.Path.{◌≡◌, refl, sym, ap, ◌∙◌}
use mathlib.Core.Bool.{Bool, true, false, ◌&&◌}
use mathlib.Core.List.{List, [], ◌∷◌}
use lib.ListN.{length, drop}
use lib.Dec.{eqb}
use Rattle.words.specs.Tests.{by_bool}
use Rattle.records.specs.Records.{is_create}
use Rattle.book.specs.Lines.{Line, struck_out, is_left, left, struck_newest, undoing_newest, newest_creates, filtered}
use Rattle.book_laws.specs.Striking.{undoing_line, Strikes, none, stays, out, entries}
use Rattle.book_laws.specs.Keeping.{In, here, later, Each, any_line}
use Rattle.book_laws.proofs.Members.{each_cons}

pub struck_not_left : (i : ℕ) (l : Line) → is_left i (struck_out l) ≡ false
struck_not_left i l = by_bool (eqb l.owner i) (λ e. rw e) (λ e. rw e)

module _ (i : ℕ) where
  -- any list strikes itself; the newest that is left is struck out
  pub strikes_none : (ls : List Line) → Strikes i ls ls
  strikes_none [] = none
  strikes_none (l ∷ ls) = stays (strikes_none ls)

  pub strikes_newest : (ls : List Line) → Strikes i ls (struck_newest i ls)
  unfolding struck_newest
  strikes_newest [] = none
  strikes_newest (l ∷ ls) = by_bool (is_left i l) (λ e. rw e (out e (strikes_none ls))) (λ e. rw e (stays (strikes_newest ls)))

  pub strikes_length : {ls ms : List Line} → Strikes i ls ms → length ms ≡ length ls
  strikes_length none = refl
  strikes_length (stays s) = ap suc (strikes_length s)
  strikes_length (out e s) = ap suc (strikes_length s)

  pub strikes_entries : {ls ms : List Line} → Strikes i ls ms → entries ms ≡ entries ls
  unfolding entries
  strikes_entries none = refl
  strikes_entries (stays {l} s) = rw (strikes_entries s)
  strikes_entries (out {l} e s) = rw (strikes_entries s)

  pub strikes_drop : (j : ℕ) {ls ms : List Line} → Strikes i ls ms → Strikes i (drop j ls) (drop j ms)
  strikes_drop zero s = s
  strikes_drop (suc j) none = none
  strikes_drop (suc j) (stays s) = strikes_drop j s
  strikes_drop (suc j) (out e s) = strikes_drop j s

  pub strikes_each : (P : Line → Type 0) {ls ms : List Line} → Strikes i ls ms → Each P ls → ((l : Line) → In l ls → is_left i l ≡ true → P (struck_out l)) → Each P ms
  strikes_each P none h k = h
  strikes_each P (stays {l} s) h k = each_cons (h l here) (strikes_each P s (λ m j. h m (later j)) (λ m j. k m (later j)))
  strikes_each P (out {l} e s) h k = each_cons (k l here e) (strikes_each P s (λ m j. h m (later j)) (λ m j. k m (later j)))

  pub strikes_any : (f : Line → Bool) → ((l : Line) → f (struck_out l) ≡ f l) → {ls ms : List Line} → Strikes i ls ms → any_line f ms ≡ any_line f ls
  unfolding any_line
  strikes_any f h none = refl
  strikes_any f h (stays s) = rw (strikes_any f h s)
  strikes_any f h (out {l} e s) = rw (h l, strikes_any f h s)

  -- l is the newest line that is left
  pub record Newest (ls : List Line) (l : Line) : Type 0 where
    pub there : In l ls
    pub is_left_law : is_left i l ≡ true
    pub undoing : (rest : List Line) → undoing_newest i ls rest ≡ undoing_line i l ∷ rest
    pub creates : (o : ℕ) → newest_creates i ls o ≡ (is_create l.entry && eqb l.entry.object o)
    pub rest : filtered (is_left i) ls ≡ l ∷ filtered (is_left i) (struck_newest i ls)

  pub newest_here : (l : Line) (ls : List Line) → is_left i l ≡ true → Newest (l ∷ ls) l
  unfolding undoing_newest newest_creates struck_newest filtered
  newest_here l ls e = record { there = here; is_left_law = e; undoing = λ rest. rw e; creates = λ o. rw e; rest = rw (e, struck_not_left i l) }

  pub struck_here : (l : Line) (ls : List Line) → is_left i l ≡ true → struck_newest i (l ∷ ls) ≡ struck_out l ∷ ls
  unfolding struck_newest
  struck_here l ls e = rw e

  filtered_out : (l : Line) (ls : List Line) → is_left i l ≡ false → filtered (is_left i) (l ∷ ls) ≡ filtered (is_left i) ls
  unfolding filtered
  filtered_out l ls e = rw e

  pub struck_past : (l : Line) (ls : List Line) → is_left i l ≡ false → struck_newest i (l ∷ ls) ≡ l ∷ struck_newest i ls
  unfolding struck_newest
  struck_past l ls e = rw e

  pub newest_past : (l : Line) (ls : List Line) (m : Line) → is_left i l ≡ false → Newest ls m → Newest (l ∷ ls) m
  unfolding undoing_newest newest_creates
  newest_past l ls m e n = record {
    there = later n.there;
    is_left_law = n.is_left_law;
    undoing = λ rest. rw e (n.undoing rest);
    creates = λ o. rw e (n.creates o);
    rest = filtered_out l ls e ∙ n.rest ∙ ap (λ (r : List Line). m ∷ r) (sym (ap (filtered (is_left i)) (struck_past l ls e) ∙ filtered_out l (struck_newest i ls) e));
  }

  pub newest : (ls : List Line) (k : ℕ) → left i ls ≡ suc k → (l : Line) × Newest ls l
  unfolding left
  newest [] k h = absurd (omega arith)
  newest (l ∷ ls) k h = by_bool (is_left i l)
      (λ e. (l, newest_here l ls e))
      (λ e. let n = newest ls k (let d : left i ls + 0 ≡ suc k = rw e at h in omega arith) in (n.0, newest_past l ls n.0 e n.1))

  pub left_length : (ls : List Line) → length (filtered (is_left i) ls) ≡ left i ls
  unfolding filtered left
  left_length [] = refl
  left_length (l ∷ ls) = let h = left_length ls in by_bool (is_left i l) (λ e. rw e (omega arith)) (λ e. rw e (omega arith))

  pub left_less : (ls : List Line) (k : ℕ) → left i ls ≡ suc k → left i (struck_newest i ls) ≡ k
  left_less ls k h = let e = left_length ls in let d = left_length (struck_newest i ls) in let f : length (filtered (is_left i) ls) ≡ suc (length (filtered (is_left i) (struck_newest i ls))) = ap length (newest ls k h).1.rest in omega arith

  -- there is one such line
  pub newest_one : (ls : List Line) (l m : Line) → Newest ls l → Newest ls m → l ≡ m
  newest_one ls l m p q = let e : l ∷ filtered (is_left i) (struck_newest i ls) ≡ m ∷ filtered (is_left i) (struck_newest i ls) = sym p.rest ∙ q.rest in cc

  -- where nothing is left no line is
  pub none_left : (ls : List Line) → left i ls ≡ 0 → (l : Line) → In l ls → is_left i l ≡ false
  unfolding left
  none_left [] h l j = elim j [ ]
  none_left (m ∷ ls) h l j = by_bool (is_left i m)
      (λ e. absurd (let d : left i ls + 1 ≡ 0 = rw e at h in omega arith))
      (λ e. let d : left i ls + 0 ≡ 0 = rw e at h in each_cons {P = λ l. is_left i l ≡ false} e (none_left ls (omega arith)) l j)
