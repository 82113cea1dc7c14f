-- What a commit and the end of an abort do to the committed state and to the full pages, object by object: each concerns the pages that the
-- transaction writes, for its changes stand on no other, and no other's stand on these. Assumes nothing.
use Prim.Native.Nat.{ℕ}
use native.Mathlib.Decide.{ℕ_discrete}
use mathlib.Core.Path.{◌≡◌, refl, sym, ap, ◌∙◌}
use mathlib.Core.Bool.{Bool, true, false, not, ◌&&◌, ◌||◌}
use mathlib.Core.List.{[], ◌∷◌}
use mathlib.Core.Logic.{◌⊎◌, inl, inr}
use lib.Dec.{eqb}
use borrow.Author.Tests.{eqb-true, eq-eqb, ne_eqb}
use Rattle.words.specs.Tests.{if, by_bool, clash, and_split, and_l, or_cases, or_l, or_r, or_true, or_false}
use Rattle.pages.specs.Geometry.{page_of}
use Rattle.records.specs.declared.Record.{Record}
use Rattle.records.specs.Records.{is_sweep, commit_of, aborted_of}
use Rattle.machine_view.specs.View.{names}
use Rattle.book.specs.Lines.{Line, line, is_left, left, has_commit}
use Rattle.book.specs.Books.{Book, runs, counts_committed, counts_full}
use Rattle.book.specs.Pointers.{sweeps, makes_or_frees}
use Rattle.book_laws.specs.Seen.{touches, seen_committed, seen_full}
use Rattle.book_laws.specs.After.{committed_by, aborted_by}
use Rattle.book_laws.specs.Keeping.{In, Runs, BookInv, openly, Writers}
use Rattle.book_laws.proofs.Members.{each_nil, each_cons, any_line_law}
use Rattle.book_laws.proofs.Folds.{seen_agree, seen_past}
use Rattle.book_laws.proofs.Ends.{unended}
use Rattle.book_laws.proofs.Undoing.{none_left}
use Rattle.book_laws.proofs.Running.{bool_same, runs_by, runs_it, ended_other}
use Rattle.book_laws.proofs.Committed.{Alike, Idle, alike_past}

-- what touches an object and is no sweep names it
pub touch : (r : Record) (x : ℕ) → touches r x ≡ true → is_sweep r ≡ false
    → (((eqb r.kind 2 || eqb r.kind 3) ≡ true) ⊎ (r.kind ≡ 6)) × (eqb r.object x ≡ true)
touch r x h s = elim (or_cases (names 3 r x) (makes_or_frees r x) h) [
  | inl e ↦ (let p = and_split (eqb r.kind 3) (eqb r.object x) e in (inl (or_r (eqb r.kind 2) (eqb r.kind 3) p.0), p.1))
  | inr e ↦ elim (or_cases ((eqb r.kind 2 || eqb r.kind 6) && eqb r.object x) (sweeps r x) e) [
    | inl d ↦ (let p = and_split (eqb r.kind 2 || eqb r.kind 6) (eqb r.object x) d in (
      elim (or_cases (eqb r.kind 2) (eqb r.kind 6) p.0) [ inl k ↦ inl (or_l (eqb r.kind 2) (eqb r.kind 3) k) | inr k ↦ inr (eqb-true r.kind 6 k) ],
      p.1,
    ))
    | inr d ↦ clash (and_l (is_sweep r) _ (and_l _ _ d)) s
  ]
]

-- two counts by owner agree if they do on what is neither a sweep nor struck out
pub by_owner : (s k a b : Bool) → (s ≡ false → k ≡ false → a ≡ b) → (s || (not k && a)) ≡ (s || (not k && b))
by_owner true k a b h = refl
by_owner false true a b h = refl
by_owner false false a b h = h refl refl

-- the full pages' count as one
pub full_owner : (s k a b : Bool) → ((s || (not k && a)) || (not k && b)) ≡ (s || (not k && (a || b)))
full_owner true k a b = refl
full_owner false true a b = refl
full_owner false false a b = refl

-- what does not hang on who writes which page
module _ (b : Book) (inv : BookInv b) (t : ℕ) (run : Runs b t) where
  pub commit_all : (l : Line) → counts_full (committed_by b t) l ≡ counts_full b l
  unfolding has_commit
  commit_all l = full_owner (is_sweep l.entry) l.struck (eqb (b.running t) l.owner || has_commit l.owner b.lines) (runs (committed_by b t) l.owner)
      ∙ by_owner (is_sweep l.entry) l.struck ((eqb (b.running t) l.owner || has_commit l.owner b.lines) || runs (committed_by b t) l.owner) (has_commit l.owner b.lines || runs b l.owner)
      (λ s k. elim (ℕ_discrete (b.running t) l.owner) [
        | yes e ↦ rw (eq-eqb (b.running t) l.owner e) (sym (or_r (has_commit l.owner b.lines) (runs b l.owner) (rw (← e) (runs_it b inv t run))))
        | no e ↦ rw (ne_eqb (b.running t) l.owner e, ended_other b inv t run (committed_by b t) refl l.owner (λ z. e (sym z)))
      ])
      ∙ sym (full_owner (is_sweep l.entry) l.struck (has_commit l.owner b.lines) (runs b l.owner))

  pub commit_full : (x : ℕ) → seen_full (committed_by b t) x ≡ seen_full b x
  commit_full x = seen_past b.origin (counts_full (committed_by b t)) (line (commit_of t) (b.running t)) b.lines x refl ∙ seen_agree b.origin (counts_full (committed_by b t)) (counts_full b) b.lines x (λ l j h. commit_all l)

  none : has_commit (b.running t) b.lines ≡ false
  none = unended (b.running t) b.lines (inv.unended t run)

  -- the end of an abort
  pub abort_committed : Alike (aborted_by b t).lines b.lines
  abort_committed = alike_past (line (aborted_of t) (b.running t) ∷ []) b.lines
      (each_cons (record { uncommitted = refl; unswept = refl; out = none }) (each_nil (Idle b.lines)))

module _ (b : Book) (inv : BookInv b) (wr : ℕ → ℕ → Bool) (w : Writers b wr) where
  pub open_line : (u : ℕ) → Runs b u → (l : Line) → In l b.lines → (x : ℕ) → l.owner ≡ b.running u → l.struck ≡ false → is_sweep l.entry ≡ false
      → touches l.entry x ≡ true → openly b u x ≡ true
  unfolding openly
  open_line u r l j x o k s h = let d = touch l.entry x h s in
      rw (ne_eqb (b.running u) 0 r) (any_line_law (λ m. is_left (b.running u) m && eqb m.entry.object x) b.lines l j
      (rw (eq-eqb l.owner (b.running u) o, k, d.1) (elim d.0 [ inl e ↦ rw e | inr e ↦ clash ((inv.lines l j).undoes e) k ])))

  written : (u : ℕ) → Runs b u → (l : Line) → In l b.lines → (x : ℕ) → l.owner ≡ b.running u → l.struck ≡ false → is_sweep l.entry ≡ false
      → touches l.entry x ≡ true → wr u (page_of x) ≡ true
  written u r l j x o k s h = w.writes u x (open_line u r l j x o k s h)

  module _ (t : ℕ) (run : Runs b t) where
    abbrev i : ℕ
    i = b.running t

    -- commit
    abbrev kept : Book
    kept = committed_by b t

    commit_on : (x : ℕ) → wr t (page_of x) ≡ true → (l : Line) → In l b.lines → touches l.entry x ≡ true → counts_committed kept l ≡ counts_full b l
    unfolding has_commit
    commit_on x on l j h = by_owner (is_sweep l.entry) l.struck (eqb i l.owner || has_commit l.owner b.lines) (has_commit l.owner b.lines || runs b l.owner)
        (λ s k. by_bool (has_commit l.owner b.lines)
        (λ e. rw e (or_true (eqb i l.owner)))
        (λ e. rw (e, or_false (eqb i l.owner)) (bool_same (eqb i l.owner) (runs b l.owner)
        (λ z. rw (← (eqb-true i l.owner z)) (runs_it b inv t run))
        (λ z. runs_by b l.owner z (λ u small q n. eq-eqb i l.owner
        (ap b.running (w.one t u (page_of x) on (written u (λ y. n (sym q ∙ y)) l j x (sym q) k s h)) ∙ q))))))
        ∙ sym (full_owner (is_sweep l.entry) l.struck (has_commit l.owner b.lines) (runs b l.owner))

    commit_off : (x : ℕ) → wr t (page_of x) ≡ false → (l : Line) → In l b.lines → touches l.entry x ≡ true → counts_committed kept l ≡ counts_committed b l
    unfolding has_commit
    commit_off x off l j h = by_owner (is_sweep l.entry) l.struck (eqb i l.owner || has_commit l.owner b.lines) (has_commit l.owner b.lines)
        (λ s k. by_bool (eqb i l.owner)
        (λ e. clash (written t run l j x (sym (eqb-true i l.owner e)) k s h) off)
        (λ e. rw e))

    pub commit_committed : (x : ℕ) → seen_committed (committed_by b t) x ≡ if (wr t (page_of x)) (seen_full b x) (seen_committed b x)
    commit_committed x = seen_past b.origin (counts_committed kept) (line (commit_of t) i) b.lines x refl ∙ by_bool (wr t (page_of x))
        (λ e. rw e (seen_agree b.origin (counts_committed kept) (counts_full b) b.lines x (commit_on x e)))
        (λ e. rw e (seen_agree b.origin (counts_committed kept) (counts_committed b) b.lines x (commit_off x e)))

    -- the end of an abort, where nothing of t is left
    module _ (over : left i b.lines ≡ 0) where
      abbrev gone : Book
      gone = aborted_by b t

      counts_then : (l : Line) → counts_full gone l ≡ (is_sweep l.entry || (not l.struck && (has_commit l.owner b.lines || runs gone l.owner)))
      unfolding has_commit
      counts_then l = full_owner (is_sweep l.entry) l.struck (has_commit l.owner b.lines) (runs gone l.owner)

      -- no line of t that counts touches anything
      own_none : (l : Line) → In l b.lines → (x : ℕ) → touches l.entry x ≡ true → is_sweep l.entry ≡ false → l.struck ≡ false → l.owner ≡ i → ⊥
      own_none l j x h s k o = let d = touch l.entry x h s in elim d.0 [
        | inl e ↦ clash (rw (eq-eqb l.owner i o, k, e) refl) (none_left i b.lines over l j)
        | inr e ↦ clash ((inv.lines l j).undoes e) k
      ]

      pub abort_agree : (x : ℕ) (l : Line) → In l b.lines → touches l.entry x ≡ true → counts_full gone l ≡ counts_full b l
      abort_agree x l j h = counts_then l ∙ by_owner (is_sweep l.entry) l.struck (has_commit l.owner b.lines || runs gone l.owner) (has_commit l.owner b.lines || runs b l.owner)
          (λ s k. rw (ended_other b inv t run gone refl l.owner (own_none l j x h s k)))
          ∙ sym (full_owner (is_sweep l.entry) l.struck (has_commit l.owner b.lines) (runs b l.owner))

      pub abort_full : (x : ℕ) → seen_full gone x ≡ seen_full b x
      abort_full x = seen_past b.origin (counts_full gone) (line (aborted_of t) i) b.lines x refl
          ∙ seen_agree b.origin (counts_full gone) (counts_full b) b.lines x (abort_agree x)

      -- t's pages are as committed
      pub abort_own : (x : ℕ) → wr t (page_of x) ≡ true → seen_full b x ≡ seen_committed b x
      abort_own x on = seen_agree b.origin (counts_full b) (counts_committed b) b.lines x (λ l j h.
          full_owner (is_sweep l.entry) l.struck (has_commit l.owner b.lines) (runs b l.owner)
          ∙ by_owner (is_sweep l.entry) l.struck (has_commit l.owner b.lines || runs b l.owner) (has_commit l.owner b.lines)
          (λ s k. by_bool (runs b l.owner)
          (λ z. runs_by b l.owner z (λ u small q n. let r : Runs b u = λ y. n (sym q ∙ y) in
          absurd (own_none l j x h s k (sym q ∙ ap b.running (w.one u t (page_of x) (written u r l j x (sym q) k s h) on)))))
          (λ z. rw z (or_false (has_commit l.owner b.lines)))))
