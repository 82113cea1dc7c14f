-- The end of a transaction, by commit or abort: what the tables and the book then say of locks and knowledge. n is the number of pages.
-- Assumes nothing.
use Prim.Native.Nat.{ℕ, ◌+◌, ◌<◌, ◌≤◌}
use native.Mathlib.Omega.{arith}
use mathlib.Core.Path.{◌≡◌, refl, sym, ap, ◌∙◌, subst}
use mathlib.Core.Bool.{Bool, true, false, not, ◌&&◌, ◌||◌}
use mathlib.Core.List.{List, [], ◌∷◌}
use lib.ListN.{length, get_or, set}
use lib.Seq.{get_or-set_same}
use native.Mathlib.Decide.{ℕ_discrete}
use lib.Dec.{eqb}
use borrow.Author.Tests.{eqb-false, eqb-true, ne_eqb, not-true}
use Rattle.words.specs.Tests.{by_bool, clash, and_false}
use Rattle.records.specs.declared.Record.{Record}
use Rattle.words.specs.Bits.{bit, without_bit, bit_without}
use Rattle.areas.specs.Areas.{Areas, received_count}
use Rattle.areas.specs.Layout.{reopening_at, table_words, mark_count, marked_at, order_at, undoing_at, undoing_from}
use Rattle.areas.specs.Tables.{at, undoes}
use Rattle.areas.specs.Entry.{records}
use Rattle.acceptance.specs.Lengths.{Sized}
use Rattle.calls.specs.Marks.{order_of}
use Rattle.calls.specs.Transactions.{ended_tables}
use Rattle.book.specs.Lines.{Line, line, is_left, filtered}
use Rattle.book.specs.Books.{Book, counts_full}
use Rattle.book.specs.Feeding.{put}
use Rattle.collector.specs.Bits.{◌and◌, and_l, and_r, and_intro}
use Rattle.collector.specs.State.{Locks, Tables}
use Rattle.collector.specs.Undo.{with}
use Rattle.collector.proofs.Worlds.{Deep}
use Rattle.machine_calls.specs.Tables.{locks_of, tables_of}
use Rattle.machine_calls.proofs.Frames.{reopening_kept}
use Rattle.machine_calls.proofs.Ended.{ended_beside, ended_locks, ended_tables_law, ended_unset, ended_others}
use Rattle.book_laws.specs.Seen.{touches}
use Rattle.book_laws.specs.Striking.{entries, Backs}
use Rattle.book_laws.specs.Keeping.{In, Runs, Writers, openly}
use Rattle.book_laws.proofs.Running.{put_same, put_other}
use Rattle.demand.proofs.State.{machine, Going, OpenInv}
use Rattle.demand.proofs.LeftRecords.{left_next, left_records, left_append}
use Rattle.demand.proofs.Notes.{left_entries}
use Rattle.demand.proofs.Going.{away_all, backs_past}
use Rattle.records.specs.Records.{txn_count, recorded}

both_ways : (a b : Bool) → (a && not b) ≡ (not b and a)
unfolding ◌and◌
both_ways true true = refl
both_ways true false = refl
both_ways false true = refl
both_ways false false = refl

module _ (n : ℕ) (s : Areas) (b : Book) (i : OpenInv n s b) (len : table_words n ≤ length s.work) (t : ℕ) (small : t < txn_count) where
  abbrev w : List ℕ
  w = ended_tables s.work n t

  act_after : (u : ℕ) → (locks_of w n).act u ≡ (not (eqb u t) and (locks_of s.work n).act u)
  act_after u = ap (λ (l : Locks). l.act u) (ended_locks s.work n t len)

  wr_after : (u p : ℕ) → (locks_of w n).wr u p ≡ (not (eqb u t) and (locks_of s.work n).wr u p)
  wr_after u p = ap (λ (l : Locks). l.wr u p) (ended_locks s.work n t len)

  kn_after : (u x : ℕ) → (tables_of w n).kn u x ≡ (not (eqb u t) and (tables_of s.work n).kn u x)
  kn_after u x = ap (λ (a : Tables). a.kn u x) (ended_tables_law s.work n t len small)

  pub end_word : at w reopening_at ≡ 2
  end_word = (reopening_kept (ended_beside s.work n t) n (omega arith)).0 ∙ i.word

  -- the mask of open transactions
  pub end_opens : (m : ℕ) → ((u : ℕ) → u < txn_count → bit m u ≡ (locks_of s.work n).act u) → (u : ℕ) → u < txn_count → bit (without_bit m t) u ≡ (locks_of w n).act u
  end_opens m h u l = bit_without m t u ∙ ap (λ (z : Bool). z && not (eqb u t)) (h u l) ∙ both_ways ((locks_of s.work n).act u) (eqb u t) ∙ sym (act_after u)

  -- b': the book then
  module _ (b' : Book) (running : b'.running ≡ put b.running t 0) (known : b'.known ≡ put b.known t (λ o. false)) where
    pub end_known : (u x : ℕ) → b'.known u x ≡ true → (tables_of w n).kn u x ≡ true
    end_known u x h = let k : put b.known t (λ o. false) u x ≡ true = rw known at h in kn_after u x ∙ by_bool (eqb u t)
        (λ e. clash (rw e at k) refl)
        (λ e. and_intro _ _ (rw e refl) (i.known u x (rw e at k)))

    now : (u : ℕ) → b'.running u ≡ put b.running t 0 u
    now u = ap (λ (f : ℕ → ℕ). f u) running

    pub end_active : (u : ℕ) → (locks_of w n).act u ≡ true → Runs b' u
    end_active u h z = let k = sym (act_after u) ∙ h in
        let d = eqb-false u t (not-true _ (and_l _ _ k)) in i.active u (and_r _ _ k) (sym (put_other b.running t 0 u d) ∙ sym (now u) ∙ z)

    pub end_runs : (u : ℕ) → Runs b' u → (locks_of w n).act u ≡ true
    end_runs u r = act_after u ∙ by_bool (eqb u t)
        (λ e. absurd (r (now u ∙ rw (eqb-true u t e) (put_same b.running t 0))))
        (λ e. and_intro _ _ (rw e refl) (i.runs u (λ z. r (now u ∙ put_other b.running t 0 u (eqb-false u t e) ∙ z))))

    pub end_writers : ((u x : ℕ) → openly b' u x ≡ true → (u ≡ t → ⊥) × (openly b u x ≡ true)) → Writers b' (locks_of w n).wr
    end_writers h = record {
      writes = λ u x e. let k = h u x e in wr_after u _ ∙ and_intro _ _ (rw (ne_eqb u t k.0) refl) (i.writers.writes u x k.1);
      one = λ u v p x y. i.writers.one u v p (and_r _ _ (sym (wr_after u p) ∙ x)) (and_r _ _ (sym (wr_after v p) ∙ y));
    }

-- what the words then say of marks: t has none
pub end_marks : (n : ℕ) (w : List ℕ) (t : ℕ) → t < txn_count → undoing_from n ≤ length w → (f : ℕ → ℕ → ℕ)
    → ((u m : ℕ) → u < txn_count → m < mark_count → (order_of w n u m ≡ 0 → ⊥) → at w (marked_at n u m) ≡ f u m)
    → (u m : ℕ) → u < txn_count → m < mark_count → (order_of (ended_tables w n t) n u m ≡ 0 → ⊥) → at (ended_tables w n t) (marked_at n u m) ≡ f u m
end_marks n w t small len f h u m a b z = elim (ℕ_discrete u t) [
  | yes e ↦ absurd (z (rw e (ended_unset w n t small m b (omega arith))))
  | no e ↦ ended_others w n t (marked_at n u m) (omega arith) (λ y. omega arith) (λ k l. (λ y. e (omega arith), λ y. omega arith))
      ∙ h u m a b (λ y. z (ended_others w n t (order_at n u m) (omega arith) (λ y. omega arith) (λ k l. (λ x. omega arith, λ x. e (omega arith))) ∙ y))
]

pub end_undoes : (n : ℕ) (w : List ℕ) (t : ℕ) → t < txn_count → (j : ℕ) → undoes (ended_tables w n t) n j ≡ undoes w n j
end_undoes n w t small j = ap (λ (k : ℕ). not (eqb k 0)) (ended_others w n t (undoing_at n j) (omega arith) (λ y. omega arith) (λ m l. (λ y. omega arith, λ y. omega arith)))

-- record e ends t, which can take nothing back any more; others can what they could
module _ (n : ℕ) (s : Areas) (b : Book) (i : OpenInv n s b) (z : Sized s n) (t : ℕ) (e : Record) (b' : Book) (w : List ℕ) where
  pub record EndsBy : Type 0 where
    pub quiet : (x : ℕ) → touches e x ≡ false
    pub unchanging : (eqb e.kind 2 || eqb e.kind 3) ≡ false
    pub uncreating : eqb e.kind 6 ≡ false
    pub unbegun : eqb e.kind 1 ≡ false
    pub room : received_count s + 1 ≤ records s
    pub origin : b'.origin ≡ b.origin
    pub lines : b'.lines ≡ line e (b.running t) ∷ b.lines
    pub running : b'.running ≡ put b.running t 0
    pub marked : b'.marked ≡ b.marked
    pub agree : (l : Line) → In l b.lines → (x : ℕ) → touches l.entry x ≡ true → counts_full b' l ≡ counts_full b l
    pub left : (u : ℕ) → Runs b u → (u ≡ t → ⊥) → left_records (undoes w n) s.log u (received_count s) ≡ left_entries b u
    pub fresh : (j : ℕ) → received_count s ≤ j → undoes w n j ≡ false
    pub marks : (u m : ℕ) → u < txn_count → m < mark_count → (order_of w n u m ≡ 0 → ⊥) → at w (marked_at n u m) ≡ b.marked u m

  module _ (q : EndsBy) where
    other : (u : ℕ) → Runs b' u → (u ≡ t → ⊥) × (b'.running u ≡ b.running u)
    other u r = let k : b'.running u ≡ put b.running t 0 u = ap (λ (f : ℕ → ℕ). f u) q.running in by_bool (eqb u t)
        (λ d. absurd (r (k ∙ rw d refl)))
        (λ d. (eqb-false u t d, k ∙ rw d refl))

    unleft : (j : ℕ) → is_left j (line e (b.running t)) ≡ false
    unleft j = rw q.unchanging (and_false (eqb (b.running t) j && true))

    backs_after : (u : ℕ) → Runs b' u → Backs b'.origin (counts_full b') (b'.running u) b'.lines (with i.going.stack t [] u)
    backs_after u r = let k = other u r in
        subst (λ (a : List ℕ). Backs a (counts_full b') (b'.running u) b'.lines (with i.going.stack t [] u)) (sym q.origin)
        (subst (λ (ls : List Line). Backs b.origin (counts_full b') (b'.running u) ls (with i.going.stack t [] u)) (sym q.lines)
        (subst (λ (j : ℕ). Backs b.origin (counts_full b') j (line e (b.running t) ∷ b.lines) (with i.going.stack t [] u)) (sym k.1)
        (rw (ne_eqb u t k.0) (backs_past b.origin (counts_full b) (counts_full b') (b.running u) (line e (b.running t)) b.lines (i.going.stack u) (unleft (b.running u))
        (λ d. away_all e (i.going.stack u) q.quiet) q.agree (i.going.backs u (λ y. r (k.1 ∙ y)))))))

    left_after : (u : ℕ) → Runs b' u → left_records (undoes w n) (recorded s.log (received_count s) e) u (received_count s + 1) ≡ left_entries b' u
    unfolding filtered entries
    left_after u r = let k = other u r in
        left_append (undoes w n) (undoes w n) s.log u (received_count s) e (let l = z.log_len in let m = q.room in omega arith) (λ j l. refl)
        ∙ unmoved u
        ∙ q.left u (λ y. r (k.1 ∙ y)) k.0
        ∙ sym (ap (λ (ls : List Line). entries (filtered (is_left (b'.running u)) ls)) q.lines ∙ ap (λ (j : ℕ). entries (filtered (is_left j) (line e (b.running t) ∷ b.lines))) k.1
        ∙ rw (unleft (b.running u)) refl)
      where
        unmoved : (u : ℕ) → left_next (undoes w n (received_count s)) u e (left_records (undoes w n) s.log u (received_count s)) ≡ left_records (undoes w n) s.log u (received_count s)
        unmoved u = rw (q.unbegun, q.unchanging, q.uncreating, and_false (undoes w n (received_count s)))

    pub end_going : (s' : Areas) → s'.log ≡ recorded s.log (received_count s) e → s'.counts ≡ set s.counts 0 (received_count s + 1) → s'.work ≡ w
        → Deep (machine n s' b') (with i.going.stack t []) → Going n s' b'
    end_going s' log counts work d = record {
      stack = with i.going.stack t [];
      deep = d;
      backs = backs_after;
      notes = record {
        left = λ u r. rw (log, work, more) (left_after u r);
        fresh = λ j l. rw work (q.fresh j (let k = more in omega arith));
        marks = rw (work, q.marked) q.marks;
      };
    }
      where
        more : received_count s' ≡ received_count s + 1
        more = ap (λ (k : List ℕ). get_or k 0 0) counts ∙ get_or-set_same s.counts 0 (received_count s + 1) 0 (let l = z.counts_len in omega arith)
