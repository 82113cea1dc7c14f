-- Setting a mark, and going back to one: what the ledger notes at a transaction's marks then. n is the number of pages. Assumes nothing.
use Prim.Native.Nat.{ℕ, zero, suc, ◌+◌, ◌-◌, ◌≤◌, ◌<◌}
use native.Mathlib.Omega.{arith}
use native.Mathlib.Decide.{ℕ_discrete}
use mathlib.Core.Path.{◌≡◌, refl, sym, ap, ◌∙◌, subst}
use mathlib.Core.Bool.{Bool, true, false}
use mathlib.Core.List.{List, [], ◌∷◌}
use lib.ListN.{length, set, drop}
use lib.Seq.{get_or-set_other}
use lib.Dec.{ltb}
use borrow.Author.Tests.{eq-eqb, ne_eqb, ltb-false}
use Rattle.words.specs.Tests.{by_bool, clash}
use Rattle.words.specs.Spans.{over, over_outside}
use Rattle.pages.specs.Geometry.{page_of}
use Rattle.records.specs.declared.Record.{Record}
use Rattle.records.specs.Records.{txn_count}
use Rattle.areas.specs.Areas.{Areas}
use Rattle.areas.specs.Entry.{records}
use Rattle.areas.specs.Layout.{mark_count, marked_at, order_at, order_top, undoing_from}
use Rattle.calls.specs.Marks.{order_of, moved_up, others_set, set_last, dropped, since_mark, went_back}
use Rattle.calls.specs.Transactions.{changes_of}
use Rattle.acceptance.specs.Entered.{Open}
use Rattle.acceptance.specs.Marks.{MarkFacts, BackFacts}
use Rattle.book.specs.Lines.{Line, is_left, left, filtered}
use Rattle.book.specs.Books.{Book}
use Rattle.book.specs.Feeding.{put, marks, goes_back}
use Rattle.collector.specs.Objects.{Obj}
use Rattle.machine_view.specs.View.{view, applied}
use Rattle.machine_calls.specs.Tables.{locks_of}
use Rattle.book_laws.specs.Seen.{touches, seen_committed}
use Rattle.book_laws.specs.Striking.{entries}
use Rattle.book_laws.specs.Keeping.{here, later, Runs, Each}
use Rattle.book_laws.proofs.Backing.{change_other}
use Rattle.book_laws.proofs.Openness.{open_intro}
use Rattle.book_laws.proofs.OwnPages.{applied_all, left_of, left_past, left_here, still, own_view}
use Rattle.book_laws.proofs.GoneBack.{went_marked}
use Rattle.demand.proofs.State.{OpenInv}
use Rattle.demand.proofs.Change.{full_shown}
use Rattle.demand.proofs.Went.{Went}
use Rattle.demand.proofs.Marks.{other_unset, gone}
use Rattle.guarantees.specs.Restoring.{Noted, notes}
use Rattle.guarantees.proofs.Granted.{Agrees}
use Rattle.guarantees.proofs.MarkOrder.{orderly_same, kept_place, set_orderly, set_before, set_among, dropped_place, dropped_orderly}
use Rattle.guarantees.proofs.MarkNotes.{oldest, AtMark, OfTxn, Stays, stays_at, stays_all, quiet_stays, gone_stays, back_stays}
use Rattle.guarantees.proofs.MarkSteps.{active_runs}

-- a table of transactions and marks with another value for t's mark m
module _ {A : Type 0} (f : ℕ → ℕ → A) (t m : ℕ) (v : A) where
  abbrev put_mark : ℕ → ℕ → A
  put_mark = put f t (put (f t) m v)

  put_mark_law : put_mark t m ≡ v
  put_mark_law = rw (eq-eqb t t refl, eq-eqb m m refl)

  put_own : (j : ℕ) → (j ≡ m → ⊥) → put_mark t j ≡ f t j
  put_own j d = rw (eq-eqb t t refl, ne_eqb j m d)

  put_foreign : (u j : ℕ) → (u ≡ t → ⊥) → put_mark u j ≡ f u j
  put_foreign u j d = rw (ne_eqb u t d)

-- the places of another's marks
set_foreign : (w : List ℕ) (n u m v t k : ℕ) → u < txn_count → m < mark_count → k < mark_count → (t ≡ u → ⊥) → order_of (set (set_last w n u m) (marked_at n u m) v) n t k ≡ order_of w n t k
unfolding set_last
set_foreign w n u m v t k small a c d =
    get_or-set_other (set_last w n u m) (marked_at n u m) (order_at n t k) v 0 (λ e. omega arith)
    ∙ get_or-set_other (over (moved_up (order_of w n u m)) w (order_at n u 0) mark_count) (order_at n u m) (order_at n t k) (others_set w n u m + 1) 0 (λ e. d (omega arith))
    ∙ over_outside (moved_up (order_of w n u m)) w (order_at n u 0) mark_count (order_at n t k) 0 (λ j l y. d (omega arith))

dropped_foreign : (w : List ℕ) (n u a j t k : ℕ) → j ≤ mark_count → u < txn_count → k < mark_count → (t ≡ u → ⊥) → order_of (dropped w n u a j) n t k ≡ order_of w n t k
unfolding dropped
dropped_foreign w n u a zero t k l small c d = refl
dropped_foreign w n u a (suc j) t k l small c d = let v = dropped w n u a j in let ih = dropped_foreign w n u a j t k (omega arith) small c d in by_bool (ltb a (order_of v n u j))
    (λ e. rw e (get_or-set_other (set v (marked_at n u j) 0) (order_at n u j) (order_at n t k) 0 0 (λ z. d (omega arith))
    ∙ get_or-set_other v (marked_at n u j) (order_at n t k) 0 0 (λ z. omega arith) ∙ ih))
    (λ e. rw e ih)

-- no change left names x
unnamed : (i x : ℕ) (ls : List Line) → Each (λ l. is_left i l ≡ true → touches l.entry x ≡ false) ls → (v : Obj) → applied_all (left_of i ls) x v ≡ v
unfolding applied_all entries filtered
unnamed i x [] h v = refl
unnamed i x (l ∷ ls) h v = let ih = unnamed i x ls (λ m j. h m (later j)) v in by_bool (is_left i l)
    (λ e. rw (left_here i l ls e) (ap (applied l.entry x) ih ∙ still l.entry x v (h l here e)))
    (λ e. rw (left_past i l ls e) ih)

module _ (n : ℕ) (some : 1 ≤ n) (s : Areas) (b : Book) (i : OpenInv n s b) (h : Open s n) (l : Noted) (g : Agrees n s.work l.granted) (t : ℕ) (small : t < txn_count) (o : OfTxn n s.work b l t) where
  len : undoing_from n ≤ length s.work
  len = let e = h.sized.work_len in omega arith

  abbrev all : List Record
  all = left_of (b.running t) b.lines

  whole : (a : ℕ) (rs : List Record) → drop (a - a) rs ≡ rs
  whole a rs = let e : a - a ≡ 0 = omega arith in rw e refl

  -- the received pages where t writes, and where it does not
  pub shows_own : Runs b t → (x : ℕ) → l.granted.writes t (page_of x) ≡ true → view s.received x ≡ applied_all all x (seen_committed b x).object
  shows_own run x e = sym (full_shown n s b i x) ∙ own_view b i.book (locks_of s.work n).wr i.writers t run x (sym (g.writers t (page_of x)) ∙ e) (i.going.stack t) (i.going.backs t run)

  names_own : Runs b t → (x : ℕ) → l.granted.writes t (page_of x) ≡ false → (v : Obj) → applied_all all x v ≡ v
  names_own run x e = unnamed (b.running t) x b.lines (λ m j d. change_other (b.running t) m d x (ne_eqb x m.entry.object (λ z.
      clash (rw z (i.writers.writes t m.entry.object (open_intro b t m.entry.object run m j d refl))) (sym (g.writers t (page_of x)) ∙ e))))

  -- mark m of u is set
  module _ (u m : ℕ) (f : MarkFacts s u m) where
    abbrev b' : Book
    b' = marks b u m

    abbrev l' : Noted
    l' = notes l u m s.received

    abbrev w : List ℕ
    w = set (set_last s.work n u m) (marked_at n u m) (length (changes_of s n u))

    other_stays : (j : ℕ) → ((t ≡ u) × (j ≡ m) → ⊥) → Stays b l b' l' t j (left (b.running t) b.lines)
    other_stays j d = quiet_stays b l b' l' t j refl refl refl (kept b.marked _) (λ p e. e) (kept l.pages _) (kept l.owned _)
      where
        kept : {A : Type 0} (f : ℕ → ℕ → A) (v : A) → put f u (put (f u) m v) t j ≡ f t j
        kept f v = elim (ℕ_discrete t u) [ yes e ↦ rw (e) (put_own f u m v j (λ z. d (e, z))) | no e ↦ put_foreign f u m v t j e ]

    other_marks : (t ≡ u → ⊥) → OfTxn n w b' l' t
    other_marks e = stays_all n s.work w b l b' l' t (λ k a. set_foreign s.work n u m (length (changes_of s n u)) t k f.txn f.mark a e) (λ r k. other_stays k (λ z. e z.0)) o

  -- t's own
  module _ (m : ℕ) (f : MarkFacts s t m) where
    run : Runs b t
    run = active_runs n some s b i h l g t small o t f.txn f.active

    abbrev v : ℕ
    v = length (changes_of s n t)

    abbrev c : Book
    c = marks b t m

    abbrev k : Noted
    k = notes l t m s.received

    abbrev y : List ℕ
    y = set (set_last s.work n t m) (marked_at n t m) v

    number : c.marked t m ≡ left (b.running t) b.lines
    number = put_mark_law b.marked t m (left (b.running t) b.lines)

    owner : (p : ℕ) → k.owned t m p ≡ l.granted.writes t p
    owner p = ap (λ (f : ℕ → Bool). f p) (put_mark_law l.owned t m (l.granted.writes t))

    list : oldest c t (c.marked t m) ≡ all
    list = ap (oldest c t) number ∙ whole (left (b.running t) b.lines) all

    new_mark : AtMark c k t m
    new_mark = record {
      runs = run;
      few = rw number (omega arith);
      own = λ p e. sym (owner p) ∙ e;
      was = λ x e. ap (λ (a : List ℕ). view a x) (put_mark_law l.pages t m s.received) ∙ shows_own run x (sym (owner (page_of x)) ∙ e) ∙ ap (λ (rs : List Record). applied_all rs x (seen_committed b x).object) (sym list);
      free = λ x e z. ap (λ (rs : List Record). applied_all rs x z) list ∙ names_own run x (sym (owner (page_of x)) ∙ e) z;
    }

    -- another mark was set before
    was_set : (j : ℕ) → j < mark_count → (j ≡ m → ⊥) → (order_of y n t j ≡ 0 → ⊥) → order_of s.work n t j ≡ 0 → ⊥
    was_set j a d e z = e (other_unset s.work n t m v small f.mark len t j small a (λ q. d q.1) z)

    old_number : (j : ℕ) → (j ≡ m → ⊥) → c.marked t j ≡ b.marked t j
    old_number j d = put_own b.marked t m (left (b.running t) b.lines) j d

    rising : (j j' : ℕ) → j < mark_count → j' < mark_count → (order_of y n t j ≡ 0 → ⊥) → (order_of y n t j' ≡ 0 → ⊥) → order_of y n t j ≤ order_of y n t j' → c.marked t j ≤ c.marked t j'
    rising j j' a a' e e' q = elim (ℕ_discrete j' m) [
      | yes d' ↦ elim (ℕ_discrete j m) [
        | yes d ↦ rw (d, d') (omega arith)
        | no d ↦ (let z = (o.marks j a (was_set j a d e)).few in rw d' (rw (number, old_number j d) z))
      ]
      | no d' ↦ elim (ℕ_discrete j m) [
        | yes d ↦ absurd (let z = set_before s.work n t m v f.mark len small o.order j' a' d' in let x : order_of y n t m ≤ order_of y n t j' = rw d at q in omega arith)
        | no d ↦ rw (old_number j d, old_number j' d') (o.rising j j' a a' (was_set j a d e) (was_set j' a' d' e') (set_among s.work n t m v f.mark len small o.order j j' a a' d d' q))
      ]
    ]

    own_marks : OfTxn n y c k t
    own_marks = record {
      order = set_orderly s.work n t m v f.mark len small o.order;
      rising = rising;
      marks = λ j a e. elim (ℕ_discrete j m) [
        | yes d ↦ subst (λ (x : ℕ). AtMark c k t x) (sym d) new_mark
        | no d ↦ (let z = o.marks j a (was_set j a d e) in stays_at b l c k t j (left (b.running t) b.lines) (other_stays t m f j (λ q. d q.1)) z.few z)
      ];
    }

  pub marked_marks : (u m : ℕ) → MarkFacts s u m → OfTxn n (set (set_last s.work n u m) (marked_at n u m) (length (changes_of s n u))) (marks b u m) (notes l u m s.received) t
  marked_marks u m f = elim (ℕ_discrete t u) [
    | yes e ↦ subst (λ (x : ℕ). OfTxn n (set (set_last s.work n x m) (marked_at n x m) (length (changes_of s n x))) (marks b x m) (notes l x m s.received) t) e
        (own_marks m (subst (λ (x : ℕ). MarkFacts s x m) (sym e) f))
    | no e ↦ other_marks u m f e
  ]

  -- u goes back to mark m
  module _ (u m : ℕ) (f : BackFacts s n u m) where
    run_u : Runs b u
    run_u = active_runs n some s b i h l g t small o u f.txn f.active

    abbrev s₁ : Areas
    s₁ = went_back s.log (since_mark s n u m) s n u

    went : Went n u s b s₁ (goes_back (length (since_mark s n u m)) b u)
    went = gone n some s b i h u m f

    abbrev a : ℕ
    a = order_of s₁.work n u m

    abbrev w₂ : List ℕ
    w₂ = dropped s₁.work n u a mark_count

    abbrev b₂ : Book
    b₂ = goes_back (left (b.running u) b.lines - b.marked u m) b u

    before : (v j : ℕ) → v < txn_count → j < mark_count → order_of s₁.work n v j ≡ order_of s.work n v j
    before v j x q = went.marks (order_at n v j) (omega arith) (omega arith)

    back_other : (t ≡ u → ⊥) → OfTxn n w₂ b₂ l t
    back_other e = stays_all n s.work w₂ b l b₂ l t
        (λ k c. dropped_foreign s₁.work n u a mark_count t k (omega arith) f.txn c e ∙ before t k small c)
        (λ r k. gone_stays b l u (left (b.running u) b.lines - b.marked u m) t k i.book run_u (omega arith) r e) o

    module _ (e : t ≡ u) where
      len₁ : undoing_from n ≤ length s₁.work
      len₁ = let z = went.sized.work_len in omega arith

      set_m : order_of s.work n t m ≡ 0 → ⊥
      set_m = rw e f.marked

      -- a mark that is still set has its place, which is not after m's
      kept : (j : ℕ) → j < mark_count → (order_of w₂ n t j ≡ 0 → ⊥) → (order_of w₂ n t j ≡ order_of s.work n t j) × (order_of s.work n t j ≤ order_of s.work n t m)
      unfolding kept_place
      kept j c d = let p : order_of w₂ n t j ≡ kept_place a (order_of s₁.work n t) j = rw e (dropped_place s₁.work n u a len₁ f.txn j c) in by_bool (ltb a (order_of s₁.work n t j))
          (λ z. absurd (d (p ∙ rw z refl)))
          (λ z. (p ∙ rw z (before t j small c), (let x = ltb-false a (order_of s₁.work n t j) z in let y = before t j small c in let q : a ≡ order_of s.work n t m = rw e (before u m f.txn f.mark) in omega arith)))

      still_set : (j : ℕ) (c : j < mark_count) → (order_of w₂ n t j ≡ 0 → ⊥) → order_of s.work n t j ≡ 0 → ⊥
      still_set j c d z = d ((kept j c d).0 ∙ z)

      few_m : b.marked t m ≤ left (b.running t) b.lines
      few_m = (o.marks m f.mark set_m).few

      top : a ≤ mark_count
      top = let z = h.ranged.working.order u m f.txn f.mark in let y = before u m f.txn f.mark in let x = most (records s) in omega arith
        where
          most : (q : ℕ) → order_top q ≤ mark_count
          most q = by_bool (ltb 1 q) (λ z. rw z (omega arith)) (λ z. rw z (omega arith))

      same_number : (j : ℕ) → b₂.marked t j ≡ b.marked t j
      same_number j = ap (λ (q : ℕ → ℕ → ℕ). q t j) (went_marked u (left (b.running u) b.lines - b.marked u m) b)

      stays_back : (j : ℕ) → Stays b l b₂ l t j (b.marked t m)
      stays_back j = subst (λ (v : ℕ). Stays b l (goes_back (left (b.running v) b.lines - b.marked v m) b v) l t j (b.marked t m)) e
          (back_stays b l t (b.marked t m) j i.book (rw e run_u) few_m)

      back_own : OfTxn n w₂ b₂ l t
      back_own = record {
        order = rw e (dropped_orderly s₁.work n u a len₁ f.txn top (orderly_same s.work s₁.work n u (λ j c. before u j f.txn c) (rw e at o.order)));
        rising = λ j j' c c' d d' q. rw (same_number j, same_number j') (o.rising j j' c c' (still_set j c d) (still_set j' c' d') (rw ((kept j c d).0, (kept j' c' d').0) at q));
        marks = λ j c d. stays_at b l b₂ l t j (b.marked t m) (stays_back j) (o.rising j m c f.mark (still_set j c d) set_m (kept j c d).1) (o.marks j c (still_set j c d));
      }

    pub back_marks : OfTxn n w₂ b₂ l t
    back_marks = elim (ℕ_discrete t u) [ yes e ↦ back_own e | no e ↦ back_other e ]
