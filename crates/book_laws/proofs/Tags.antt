-- Tags: a pointer is unbroken where its target is no younger than its word. Assumes nothing.
use Prim.Native.Nat.{ℕ, suc, ◌≤◌}
use native.Mathlib.Omega.{arith}
use mathlib.Core.Path.{◌≡◌, refl, ap, ◌∙◌}
use mathlib.Core.Bool.{Bool, true, false, ◌&&◌, cond}
use mathlib.Core.List.{List, [], ◌∷◌}
use lib.ListN.{length}
use lib.Dec.{eqb}
use Rattle.words.specs.Tests.{if, by_bool, clash, or_true, or_false, eqb_swap}
use Rattle.records.specs.declared.Record.{Record}
use Rattle.collector.specs.Objects.{Tag, born_at, stamp}
use Rattle.book.specs.Lines.{Line, filtered}
use Rattle.book.specs.Pointers.{makes_or_frees, writes, unbroken}
use Rattle.book_laws.specs.Seen.{tagged, seen}

-- the two parts of a tag after a line
pub born_after : (m : ℕ) (r : Record) (x : ℕ) (a : Tag) → (tagged m r x a).born ≡ if (makes_or_frees r x) m a.born
unfolding tagged born_at stamp
born_after m r x a = by_bool (makes_or_frees r x) (λ e. rw e) (λ e. rw e (by_bool (eqb r.kind 3 && eqb r.object x) (λ k. rw k) (λ k. rw k)))

pub time_after : (m : ℕ) (r : Record) (x f : ℕ) (a : Tag) → (tagged m r x a).time f ≡ if (writes r x f) m (a.time f)
unfolding tagged born_at stamp
time_after m r x f a = by_bool (makes_or_frees r x)
    (λ e. rw (e, or_true (eqb r.kind 3 && eqb r.object x && eqb r.field f)))
    (λ e. rw (e, or_false (eqb r.kind 3 && eqb r.object x && eqb r.field f)) (set (eqb r.kind 3 && eqb r.object x)))
  where
    pick : (b : Bool) (u v : ℕ) → cond b u v ≡ if b u v
    pick true u v = refl
    pick false u v = refl

    set : (b : Bool) → (if b (stamp a r.field m) a).time f ≡ if (b && eqb r.field f) m (a.time f)
    set true = ap (λ (b : Bool). cond b m (a.time f)) (eqb_swap f r.field) ∙ pick (eqb r.field f) m (a.time f)
    set false = refl

module _ (p : List ℕ) (c : Line → Bool) where
  -- no line is younger than the list
  pub born_old : (ls : List Line) (x : ℕ) → (seen p c ls x).tag.born ≤ length ls
  unfolding seen born_at
  born_old [] x = omega arith
  born_old (l ∷ ls) x = let h = born_old ls x in by_bool (c l)
      (λ e. rw (e, born_after (suc (length ls)) l.entry x (seen p c ls x).tag) (by_bool (makes_or_frees l.entry x) (λ k. rw k (omega arith)) (λ k. rw k (omega arith))))
      (λ e. rw e (omega arith))

  pub time_old : (ls : List Line) (x f : ℕ) → (seen p c ls x).tag.time f ≤ length ls
  unfolding seen born_at
  time_old [] x f = omega arith
  time_old (l ∷ ls) x f = let h = time_old ls x f in by_bool (c l)
      (λ e. rw (e, time_after (suc (length ls)) l.entry x f (seen p c ls x).tag) (by_bool (writes l.entry x f) (λ k. rw k (omega arith)) (λ k. rw k (omega arith))))
      (λ e. rw e (omega arith))

  -- the law, both ways
  pub unbroken_tag : (ls : List Line) (o f x : ℕ) → unbroken (filtered c ls) o f x ≡ true → (seen p c ls x).tag.born ≤ (seen p c ls o).tag.time f
  unfolding seen born_at filtered unbroken
  unbroken_tag [] o f x h = omega arith
  unbroken_tag (l ∷ ls) o f x h = let a = born_old ls x in by_bool (c l)
      (λ e. rw (e, born_after (suc (length ls)) l.entry x (seen p c ls x).tag, time_after (suc (length ls)) l.entry o f (seen p c ls o).tag) (by_bool (writes l.entry o f)
      (λ w. rw w (by_bool (makes_or_frees l.entry x) (λ k. rw k (omega arith)) (λ k. rw k (omega arith))))
      (λ w. rw w (by_bool (makes_or_frees l.entry x)
      (λ k. clash (rw (e, w, k) at h) refl)
      (λ k. rw k (unbroken_tag ls o f x (rw (e, w, k) at h)))))))
      (λ e. rw e (unbroken_tag ls o f x (rw e at h)))

  pub tag_unbroken : (ls : List Line) (o f x : ℕ) → (seen p c ls x).tag.born ≤ (seen p c ls o).tag.time f → unbroken (filtered c ls) o f x ≡ true
  unfolding seen born_at filtered unbroken
  tag_unbroken [] o f x h = refl
  tag_unbroken (l ∷ ls) o f x h = let a = time_old ls o f in by_bool (c l)
      (λ e. let k = rw (e, born_after (suc (length ls)) l.entry x (seen p c ls x).tag, time_after (suc (length ls)) l.entry o f (seen p c ls o).tag) at h in
      rw (e, unbroken) (by_bool (writes l.entry o f)
      (λ w. rw w)
      (λ w. let j = rw w at k in rw w (by_bool (makes_or_frees l.entry x)
      (λ s. absurd (let i = rw s at j in omega arith))
      (λ s. rw s (tag_unbroken ls o f x (rw s at j)))))))
      (λ e. rw e (tag_unbroken ls o f x (rw e at h)))
