-- The book's invariant is kept: by what adds lines and by what begins or stops transactions. Assumes nothing.
use Prim.Native.Nat.{ℕ, zero, suc, ◌+◌, ◌-◌, ◌≤◌, ◌<◌}
use native.Mathlib.Omega.{arith}
use mathlib.Core.Path.{◌≡◌, refl, sym, ap, ◌∙◌}
use mathlib.Core.Bool.{Bool, true, false}
use mathlib.Core.List.{List, ◌∷◌}
use mathlib.Core.Logic.{inl, inr}
use lib.ListN.{length}
use lib.Dec.{eqb}
use borrow.Author.Tests.{eqb-true, eqb-false, eq-eqb, ne_eqb}
use Rattle.words.specs.Tests.{by_bool, clash, or_cases}
use Rattle.records.specs.declared.Record.{Record}
use Rattle.records.specs.Records.{is_begin, is_sweep, is_end, begin_of, sweep_of, txn_count}
use Rattle.book.specs.Lines.{Line, line, has_end}
use Rattle.book.specs.Books.{Stage, Book, blank, runs, surviving, stopped}
use Rattle.book.specs.Feeding.{put, with_lines, adds, learns, begins, forced, at_stage, cleared_slots, sweep_lines, marks}
use Rattle.book_laws.specs.After.{swept_by}
use Rattle.book_laws.specs.Keeping.{In, Runs, LineOk, at_begin, newer, BookInv}
use Rattle.book_laws.proofs.Members.{each_nil, each_cons, each_drop, in_filtered}
use Rattle.book_laws.proofs.Ends.{no_end}
use Rattle.book_laws.proofs.Running.{put_same, put_other, runs_of, runs_same, runs_it}
use Rattle.book_laws.proofs.Stops.{stable_lines, survives, survive_end}

pub blank_inv : (a : List ℕ) → BookInv (blank a)
blank_inv a = record {
  distinct = λ t u r e. absurd (r refl);
  few = λ t l. refl;
  young = λ t. omega arith;
  unended = λ t r. absurd (r refl);
  lines = each_nil (LineOk (blank a));
  since = λ t r. absurd (r refl);
  stable = omega arith;
}

-- one more line that ends nothing; the same transactions run
module _ (b : Book) (inv : BookInv b) (n : Line) (on : is_end n.entry ≡ false) (ok : LineOk b n) (old : (t : ℕ) → is_begin n.entry t ≡ false)
    (own : (t : ℕ) → Runs b t → is_sweep n.entry ≡ false → n.entry.txn ≡ t → n.owner ≡ b.running t) where
  same_end : (i : ℕ) → has_end i (n ∷ b.lines) ≡ has_end i b.lines
  unfolding has_end
  same_end i = rw on

  grown : (l : Line) → LineOk b l → LineOk (with_lines b (n ∷ b.lines)) l
  unfolding runs
  grown l k = record {
    owned = k.owned;
    swept = k.swept;
    someone = k.someone;
    undoes = k.undoes;
    ends = k.ends;
    names = k.names;
    over = λ e z. same_end l.owner ∙ k.over e z;
  }

  pub grow_inv : BookInv (with_lines b (n ∷ b.lines))
  grow_inv = record {
    distinct = inv.distinct;
    few = inv.few;
    young = inv.young;
    unended = λ t r. same_end (b.running t) ∙ inv.unended t r;
    lines = each_cons (grown n ok) (λ l i. grown l (inv.lines l i));
    since = λ t r. newer (old t) (own t r) (inv.since t r);
    stable = let h = inv.stable in omega arith;
  }

-- a line of the transaction that t runs, of any other kind
pub adds_inv : (b : Book) → BookInv b → (t : ℕ) (r : Record) → Runs b t → is_end r ≡ false → is_sweep r ≡ false → (r.kind ≡ 6 → ⊥) → (r.kind ≡ 1 → ⊥) → r.txn ≡ t
    → BookInv (adds b t r)
adds_inv b inv t r run e s u o m = grow_inv b inv (line r (b.running t)) e (record {
  owned = inv.young t;
  swept = λ z. clash z s;
  someone = λ z. run;
  undoes = λ z. absurd (u z);
  ends = λ z. refl;
  names = λ v k q. m ∙ inv.distinct t v run q;
  over = λ z k. clash (runs_it b inv t run) k;
}) (λ v. rw (ne_eqb r.kind 1 o)) (λ v k z q. ap b.running (sym m ∙ q))

-- a sweep's line
pub sweep_inv : (b : Book) → BookInv b → (p m : ℕ) → BookInv (swept_by b p m)
sweep_inv b inv p m = grow_inv b inv (line (sweep_of p m) 0) refl (record {
  owned = omega arith;
  swept = λ z. refl;
  someone = λ z. clash refl z;
  undoes = λ z. absurd (omega arith);
  ends = λ z. refl;
  names = λ v k q. absurd (k (sym q));
  over = λ z k. clash refl z;
}) (λ v. refl) (λ v k z. clash refl z)

pub sweeps_inv : (b : Book) → BookInv b → (before after : List ℕ) (k : ℕ) → BookInv (with_lines b (sweep_lines before after b.lines k))
unfolding sweep_lines
sweeps_inv b inv before after zero = inv
sweeps_inv b inv before after (suc p) = let ih = sweeps_inv b inv before after p in by_bool (eqb (cleared_slots before after p) 0)
    (λ e. rw e ih)
    (λ e. rw e (sweep_inv (with_lines b (sweep_lines before after b.lines p)) ih p (cleared_slots before after p)))

-- the same lines and transactions: of learning, of forcing a line, of a stage
abbrev beside : Book → ℕ → (ℕ → ℕ → Bool) → (ℕ → ℕ → ℕ) → Stage → Book
beside b k f m g = record { origin = b.origin; lines = b.lines; stable = k; begun = b.begun; running = b.running; known = f; marked = m; stage = g }

beside_inv : (b : Book) → BookInv b → (k : ℕ) (f : ℕ → ℕ → Bool) (m : ℕ → ℕ → ℕ) (g : Stage) → k ≤ length b.lines → BookInv (beside b k f m g)
unfolding runs
beside_inv b inv k f m g h = record {
  distinct = inv.distinct;
  few = inv.few;
  young = inv.young;
  unended = inv.unended;
  lines = λ l i. let o = inv.lines l i in record {
    owned = o.owned;
    swept = o.swept;
    someone = o.someone;
    undoes = o.undoes;
    ends = o.ends;
    names = o.names;
    over = o.over;
  };
  since = inv.since;
  stable = h;
}

pub learn_inv : (b : Book) → BookInv b → (t : ℕ) (f : ℕ → Bool) → BookInv (learns b t f)
learn_inv b inv t f = beside_inv b inv b.stable (learns b t f).known b.marked b.stage inv.stable

pub force_inv : (b : Book) → BookInv b → b.stable < length b.lines → BookInv (forced b)
force_inv b inv h = beside_inv b inv (b.stable + 1) b.known b.marked b.stage (omega arith)

pub stage_inv : (b : Book) → BookInv b → (g : Stage) → BookInv (at_stage b g)
stage_inv b inv g = beside_inv b inv b.stable b.known b.marked g inv.stable

pub mark_inv : (b : Book) → BookInv b → (t m : ℕ) → BookInv (marks b t m)
mark_inv b inv t m = beside_inv b inv b.stable b.known (marks b t m).marked b.stage inv.stable

-- 'each begin line opens a transaction of its own'
module _ (b : Book) (inv : BookInv b) (t : ℕ) (small : t < txn_count) (idle : b.running t ≡ 0) where
  abbrev i : ℕ
  i = b.begun + 1

  pub begin_runs : (j : ℕ) → j ≤ b.begun → runs (begins b t) j ≡ runs b j
  begin_runs j l = runs_same (begins b t) b j
      (λ u n e. by_bool (eqb u t) (λ z. absurd (let k : i ≡ j = rw z at e in omega arith)) (λ z. rw z at e))
      (λ u n e. by_bool (eqb u t) (λ z. absurd (n (sym e ∙ ap b.running (eqb-true u t z) ∙ idle))) (λ z. rw z e))

  same : (j : ℕ) → has_end j (line (begin_of t) i ∷ b.lines) ≡ has_end j b.lines
  unfolding has_end
  same j = refl

  pub begin_inv : BookInv (begins b t)
  begin_inv = record {
    distinct = λ u v r e. by_bool (eqb u t)
        (λ p. by_bool (eqb v t) (λ q. eqb-true u t p ∙ sym (eqb-true v t q)) (λ q. absurd (let h = inv.young v in let k : i ≡ b.running v = rw (p, q) at e in omega arith)))
        (λ p. by_bool (eqb v t) (λ q. absurd (let h = inv.young u in let k : b.running u ≡ i = rw (p, q) at e in omega arith))
        (λ q. inv.distinct u v (rw p at r) (rw (p, q) at e)));
    few = λ u l. put_other b.running t i u (λ z. omega arith) ∙ inv.few u l;
    young = λ u. by_bool (eqb u t) (λ p. rw p (omega arith)) (λ p. rw p (let h = inv.young u in omega arith));
    unended = λ u r. same (put b.running t i u) ∙ by_bool (eqb u t)
        (λ p. rw p (no_end i b.lines (λ l j z. let h = (inv.lines l j).owned in omega arith)))
        (λ p. rw p (inv.unended u (rw p at r)));
    lines = each_cons first (λ l j. older l (inv.lines l j));
    since = λ u r. by_bool (eqb u t)
        (λ p. rw (p, eqb-true u t p) (at_begin (eq-eqb t t refl) refl (λ l j z. let h = (inv.lines l j).owned in omega arith)))
        (λ p. rw p (newer (ne_eqb t u (λ z. eqb-false u t p (sym z))) (λ s z. absurd (eqb-false u t p (sym z))) (inv.since u (rw p at r))));
    stable = let h = inv.stable in omega arith;
  }
    where
      first : LineOk (begins b t) (line (begin_of t) i)
      first = record {
        owned = omega arith;
        swept = λ z. clash z refl;
        someone = λ z e. omega arith;
        undoes = λ z. absurd (omega arith);
        ends = λ z. refl;
        names = λ u k e. by_bool (eqb u t) (λ p. sym (eqb-true u t p)) (λ p. absurd (let h = inv.young u in let q : i ≡ b.running u = rw p at e in omega arith));
        over = λ z k. clash (runs_of (begins b t) t i small (λ e. omega arith) (put_same b.running t i)) k;
      }

      -- an older line is of no transaction that begins now
      mine : (l : Line) → LineOk b l → (u : ℕ) → l.owner ≡ (begins b t).running u → (u ≡ t → ⊥)
      mine l k u e z = let h = k.owned in let q : l.owner ≡ i = e ∙ rw z (put_same b.running t i) in omega arith

      older : (l : Line) → LineOk b l → LineOk (begins b t) l
      older l k = record {
        owned = let h = k.owned in omega arith;
        swept = k.swept;
        someone = k.someone;
        undoes = k.undoes;
        ends = k.ends;
        names = λ u r e. let d = put_other b.running t i u (mine l k u e) in k.names u (rw d at r) (e ∙ d);
        over = λ s z. same l.owner ∙ k.over s (sym (begin_runs l.owner k.owned) ∙ z);
      }

-- 'A cut or accepted reopen stops all transactions and drops the lines ..'
pub stop_inv : (g : Stage) (b : Book) → BookInv b → BookInv (stopped g b)
unfolding surviving
stop_inv g b inv = record {
  distinct = λ t u r e. absurd (r refl);
  few = λ t l. refl;
  young = λ t. omega arith;
  unended = λ t r. absurd (r refl);
  lines = λ l j. left l (left_of l j);
  since = λ t r. absurd (r refl);
  stable = omega arith;
}
  where
    left_of : (l : Line) → In l (surviving b) → In l (stable_lines b) × (survives (stable_lines b) l ≡ true)
    left_of l j = in_filtered (survives (stable_lines b)) (stable_lines b) l j

    left : (l : Line) → In l (stable_lines b) × (survives (stable_lines b) l ≡ true) → LineOk (stopped g b) l
    left l j = let k : LineOk b l = each_drop {P = LineOk b} (length b.lines - b.stable) b.lines inv.lines l j.0 in record {
      owned = k.owned;
      swept = k.swept;
      someone = k.someone;
      undoes = k.undoes;
      ends = k.ends;
      names = λ u r e. absurd (r refl);
      over = λ s z. survive_end l.owner (stable_lines b) ∙ elim (or_cases (is_sweep l.entry) (has_end l.owner (stable_lines b)) j.1) [ inl e ↦ clash e s | inr e ↦ e ];
    }
