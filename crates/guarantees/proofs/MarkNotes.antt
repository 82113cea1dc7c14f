-- What the ledger notes at a transaction's marks, and the book: by each mark that is set, the pages that it was let write then are the
-- committed state with its changes of before the mark, which name no object of another page. n is the number of pages. Assumes nothing.
use Prim.Native.Nat.{ℕ, zero, suc, ◌+◌, ◌-◌, ◌≤◌, ◌<◌}
use native.Mathlib.Omega.{arith}
use native.Mathlib.Decide.{ℕ_discrete}
use mathlib.Core.Path.{◌≡◌, refl, sym, ap, ◌∙◌}
use mathlib.Core.Bool.{Bool, true, false}
use mathlib.Core.List.{List, [], ◌∷◌}
use lib.ListN.{length, drop}
use Rattle.words.specs.Tests.{by_bool}
use Rattle.pages.specs.Geometry.{page_of}
use Rattle.records.specs.declared.Record.{Record}
use Rattle.areas.specs.Layout.{mark_count}
use Rattle.calls.specs.Marks.{order_of}
use Rattle.book.specs.Lines.{Line, is_left, left, filtered}
use Rattle.book.specs.Books.{Book}
use Rattle.book.specs.Feeding.{goes_back}
use Rattle.collector.specs.Objects.{Obj}
use Rattle.machine_view.specs.View.{view}
use Rattle.book_laws.specs.Seen.{Seen, seen_committed}
use Rattle.book_laws.specs.Keeping.{Runs, BookInv}
use Rattle.book_laws.proofs.Undoing.{left_length}
use Rattle.book_laws.proofs.GoingBack.{went_left, went_running}
use Rattle.book_laws.proofs.OwnPages.{applied_all, left_of, left_past, left_here}
use Rattle.book_laws.proofs.GoneBack.{went_own, went_other, went_committed, went_marked}
use Rattle.demand.proofs.OneRecord.{length_entries}
use Rattle.guarantees.specs.Restoring.{Noted}
use Rattle.guarantees.proofs.MarkOrder.{Orderly, orderly_same, orderly_none}

-- the oldest k of the changes that t has left
abbrev pub oldest : Book → ℕ → ℕ → List Record
oldest b t k = drop (left (b.running t) b.lines - k) (left_of (b.running t) b.lines)

-- t's mark m, which is set
pub record AtMark (b : Book) (l : Noted) (t m : ℕ) : Type 0 where
  pub runs : Runs b t
  pub few : b.marked t m ≤ left (b.running t) b.lines
  pub own : (p : ℕ) → l.owned t m p ≡ true → l.granted.writes t p ≡ true
  pub was : (x : ℕ) → l.owned t m (page_of x) ≡ true → view (l.pages t m) x ≡ applied_all (oldest b t (b.marked t m)) x (seen_committed b x).object
  pub free : (x : ℕ) → l.owned t m (page_of x) ≡ false → (v : Obj) → applied_all (oldest b t (b.marked t m)) x v ≡ v

-- of the marks of t; the places tell which was set later
pub record OfTxn (n : ℕ) (w : List ℕ) (b : Book) (l : Noted) (t : ℕ) : Type 0 where
  pub order : Orderly w n t
  pub rising : (m k : ℕ) → m < mark_count → k < mark_count → (order_of w n t m ≡ 0 → ⊥) → (order_of w n t k ≡ 0 → ⊥) → order_of w n t m ≤ order_of w n t k → b.marked t m ≤ b.marked t k
  pub marks : (m : ℕ) → m < mark_count → (order_of w n t m ≡ 0 → ⊥) → AtMark b l t m

-- no mark of t is set
pub unmarked : (n : ℕ) (w : List ℕ) (b : Book) (l : Noted) (t : ℕ) → ((m : ℕ) → m < mark_count → order_of w n t m ≡ 0) → OfTxn n w b l t
unmarked n w b l t e = record { order = orderly_none w n t e; rising = λ m k a c x y z. absurd (x (e m a)); marks = λ m a x. absurd (x (e m a)) }

-- where t does not run it has none
pub idle_unmarked : (n : ℕ) (w : List ℕ) (b : Book) (l : Noted) (t : ℕ) → OfTxn n w b l t → b.running t ≡ 0 → (m : ℕ) → m < mark_count → order_of w n t m ≡ 0
idle_unmarked n w b l t o z m a = elim (ℕ_discrete (order_of w n t m) 0) [ yes e ↦ e | no e ↦ absurd ((o.marks m a e).runs z) ]

-- what stays of t's mark m, if at most c of t's changes were left there
pub record Stays (b : Book) (l : Noted) (b' : Book) (l' : Noted) (t m c : ℕ) : Type 0 where
  pub running : b'.running t ≡ b.running t
  pub marked : b'.marked t m ≡ b.marked t m
  pub few : (k : ℕ) → k ≤ c → k ≤ left (b'.running t) b'.lines
  pub same : (k : ℕ) → k ≤ c → oldest b' t k ≡ oldest b t k
  pub writes : (p : ℕ) → l.granted.writes t p ≡ true → l'.granted.writes t p ≡ true
  pub pages : l'.pages t m ≡ l.pages t m
  pub owned : l'.owned t m ≡ l.owned t m
  pub committed : (x : ℕ) → l.granted.writes t (page_of x) ≡ true → seen_committed b' x ≡ seen_committed b x

pub stays_at : (b : Book) (l : Noted) (b' : Book) (l' : Noted) (t m c : ℕ) → Stays b l b' l' t m c → b.marked t m ≤ c → AtMark b l t m → AtMark b' l' t m
stays_at b l b' l' t m c s h a = record {
  runs = λ z. a.runs (sym s.running ∙ z);
  few = rw s.marked (s.few (b.marked t m) h);
  own = λ p e. s.writes p (a.own p (sym (now p) ∙ e));
  was = λ x e. let d : l.owned t m (page_of x) ≡ true = sym (now (page_of x)) ∙ e in
      ap (λ (v : List ℕ). view v x) s.pages ∙ a.was x d
      ∙ sym (ap (λ (v : Seen). applied_all (oldest b' t (b'.marked t m)) x v.object) (s.committed x (a.own (page_of x) d)) ∙ ap (λ (rs : List Record). applied_all rs x (seen_committed b x).object) list);
  free = λ x e v. ap (λ (rs : List Record). applied_all rs x v) list ∙ a.free x (sym (now (page_of x)) ∙ e) v;
}
  where
    now : (p : ℕ) → l'.owned t m p ≡ l.owned t m p
    now p = ap (λ (f : ℕ → Bool). f p) s.owned

    list : oldest b' t (b'.marked t m) ≡ oldest b t (b.marked t m)
    list = ap (oldest b' t) s.marked ∙ s.same (b.marked t m) h

-- all marks of t stay
pub stays_all : (n : ℕ) (w w' : List ℕ) (b : Book) (l : Noted) (b' : Book) (l' : Noted) (t : ℕ) → ((m : ℕ) → m < mark_count → order_of w' n t m ≡ order_of w n t m)
    → (Runs b t → (m : ℕ) → Stays b l b' l' t m (left (b.running t) b.lines)) → OfTxn n w b l t → OfTxn n w' b' l' t
stays_all n w w' b l b' l' t e s o = record {
  order = orderly_same w w' n t e o.order;
  rising = λ m k a c x y z. let r = (o.marks m a (was m a x)).runs in
      rw ((s r m).marked, (s r k).marked) (o.rising m k a c (was m a x) (was k c y) (rw (e m a, e k c) at z));
  marks = λ m a x. let at = o.marks m a (was m a x) in stays_at b l b' l' t m (left (b.running t) b.lines) (s at.runs m) at.few at;
}
  where
    was : (m : ℕ) → m < mark_count → (order_of w' n t m ≡ 0 → ⊥) → order_of w n t m ≡ 0 → ⊥
    was m a x z = x (e m a ∙ z)

-- one more line
module _ (i : ℕ) (l : Line) (ls : List Line) where
  pub left_more : left i ls ≤ left i (l ∷ ls)
  unfolding left
  left_more = omega arith

  later_drop : (a k : ℕ) (r : Record) (rs : List Record) → k ≤ a → drop (a + 1 - k) (r ∷ rs) ≡ drop (a - k) rs
  later_drop a k r rs h = let e : a + 1 - k ≡ suc (a - k) = omega arith in rw e refl

  pub line_oldest : (k : ℕ) → k ≤ left i ls → drop (left i (l ∷ ls) - k) (left_of i (l ∷ ls)) ≡ drop (left i ls - k) (left_of i ls)
  unfolding left
  line_oldest k h = by_bool (is_left i l)
      (λ e. rw (left_here i l ls e, e) (later_drop (left i ls) k l.entry (left_of i ls) h))
      (λ e. rw (left_past i l ls e, e) (ap (λ (a : ℕ). drop (a - k) (left_of i ls)) (none (left i ls))))
    where
      none : (a : ℕ) → a + 0 ≡ a
      none a = omega arith

pub line_stays : (b : Book) (l : Noted) (b' : Book) (l' : Noted) (t m : ℕ) (ln : Line) → b'.lines ≡ ln ∷ b.lines → b'.running t ≡ b.running t → b'.marked ≡ b.marked
    → ((p : ℕ) → l.granted.writes t p ≡ true → l'.granted.writes t p ≡ true) → l'.pages ≡ l.pages → l'.owned ≡ l.owned
    → ((x : ℕ) → l.granted.writes t (page_of x) ≡ true → seen_committed b' x ≡ seen_committed b x) → Stays b l b' l' t m (left (b.running t) b.lines)
line_stays b l b' l' t m ln lines running marked writes pages owned committed = record {
  running = running;
  marked = ap (λ (f : ℕ → ℕ → ℕ). f t m) marked;
  few = λ k h. rw (lines, running) (let e = left_more (b.running t) ln b.lines in omega arith);
  same = λ k h. rw (lines, running) (line_oldest (b.running t) ln b.lines k h);
  writes = writes;
  pages = ap (λ (f : ℕ → ℕ → List ℕ). f t m) pages;
  owned = ap (λ (f : ℕ → ℕ → ℕ → Bool). f t m) owned;
  committed = committed;
}

-- no line
pub quiet_stays : (b : Book) (l : Noted) (b' : Book) (l' : Noted) (t m : ℕ) → b'.origin ≡ b.origin → b'.lines ≡ b.lines → b'.running ≡ b.running → b'.marked t m ≡ b.marked t m
    → ((p : ℕ) → l.granted.writes t p ≡ true → l'.granted.writes t p ≡ true) → l'.pages t m ≡ l.pages t m → l'.owned t m ≡ l.owned t m
    → Stays b l b' l' t m (left (b.running t) b.lines)
quiet_stays b l b' l' t m origin lines running marked writes pages owned = record {
  running = ap (λ (f : ℕ → ℕ). f t) running;
  marked = marked;
  few = λ k h. rw (lines, running) h;
  same = λ k h. rw (lines, running) refl;
  writes = writes;
  pages = pages;
  owned = owned;
  committed = λ x e. rw (origin, lines) refl;
}

-- another goes back
pub gone_stays : (b : Book) (l : Noted) (u k t m : ℕ) → BookInv b → Runs b u → k ≤ left (b.running u) b.lines → Runs b t → (t ≡ u → ⊥)
    → Stays b l (goes_back k b u) l t m (left (b.running t) b.lines)
gone_stays b l u k t m inv run h r d = record {
  running = runs t;
  marked = ap (λ (f : ℕ → ℕ → ℕ). f t m) (went_marked u k b);
  few = λ j c. rw (runs t, count) c;
  same = λ j c. rw (runs t, count, went_other u k b inv run h t r d) refl;
  writes = λ p e. e;
  pages = refl;
  owned = refl;
  committed = λ x e. went_committed u k b inv run h x;
}
  where
    runs : (v : ℕ) → (goes_back k b u).running v ≡ b.running v
    runs v = ap (λ (f : ℕ → ℕ). f v) (went_running k b u)

    count : left (b.running t) (goes_back k b u).lines ≡ left (b.running t) b.lines
    count = sym (lengths (goes_back k b u).lines) ∙ ap length (went_other u k b inv run h t r d) ∙ lengths b.lines
      where
        lengths : (ls : List Line) → length (left_of (b.running t) ls) ≡ left (b.running t) ls
        lengths ls = length_entries (filtered (is_left (b.running t)) ls) ∙ left_length (b.running t) ls

-- t goes back itself: what was left at marks of before stays
dropping : (a k : ℕ) (rs : List Record) → drop a (drop k rs) ≡ drop (k + a) rs
dropping a zero rs = let e : 0 + a ≡ a = omega arith in rw e refl
dropping zero (suc k) [] = let e : suc k + 0 ≡ suc k = omega arith in rw e refl
dropping (suc a) (suc k) [] = let e : suc k + suc a ≡ suc (k + suc a) = omega arith in rw e refl
dropping a (suc k) (r ∷ rs) = let e : suc k + a ≡ suc (k + a) = omega arith in rw e (dropping a k rs)

pub back_stays : (b : Book) (l : Noted) (t c m : ℕ) → BookInv b → Runs b t → c ≤ left (b.running t) b.lines
    → Stays b l (goes_back (left (b.running t) b.lines - c) b t) l t m c
back_stays b l t c m inv run h = record {
  running = runs;
  marked = ap (λ (f : ℕ → ℕ → ℕ). f t m) (went_marked t k b);
  few = λ j d. rw (runs, count) d;
  same = λ j d. rw (runs, count, went_own t k b inv run (omega arith)) (dropping (c - j) k (left_of (b.running t) b.lines)
      ∙ ap (λ (e : ℕ). drop e (left_of (b.running t) b.lines)) (sum (left (b.running t) b.lines) c j h d));
  writes = λ p e. e;
  pages = refl;
  owned = refl;
  committed = λ x e. went_committed t k b inv run (omega arith) x;
}
  where
    k : ℕ
    k = left (b.running t) b.lines - c

    runs : (goes_back k b t).running t ≡ b.running t
    runs = ap (λ (f : ℕ → ℕ). f t) (went_running k b t)

    count : left (b.running t) (goes_back k b t).lines ≡ c
    count = let e = went_left k b inv t run (omega arith) in omega arith

    sum : (a c j : ℕ) → c ≤ a → j ≤ c → (a - c) + (c - j) ≡ a - j
    sum a c j h d = omega arith
