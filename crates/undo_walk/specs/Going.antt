-- The newest changes of a transaction that are left, undone newest first: a walk down the log that appends to the log it reads, and notes
-- in the tables what it appended. n is the number of pages. Assumes nothing.
use Rattle.std.specs.Prelude.{ℕ, zero, suc, ◌+◌, ◌*◌, ◌-◌, ◌/◌, ◌<◌, ◌≤◌, ◌≡◌, true, not, ◌||◌, List, [], ◌∷◌, length, get_or, set, take, eqb, Some, None}
use Rattle.std.proofs.Math.Path.{refl}
use Rattle.std.proofs.Common.{sym, ap, ◌∙◌, get_or-set_same, arith}
use Rattle.words.specs.Tests.{and_l, or_l}
use Rattle.pages.specs.Geometry.{page_words, object_count}
use Rattle.records.specs.declared.Record.{Record}
use Rattle.records.specs.Records.{record_words, max_records, txn_count, record_at, recorded}
use Rattle.records.specs.Effects.{undoing}
use Rattle.records.specs.Soundness.{record_sound, records_sound}
use Rattle.record_laws.specs.RecordLaws.{Agree, recorded_agrees, records_sound_at, sound_record, named_object}
use Rattle.record_laws.specs.SoundRecords.{undoing_sound}
use Rattle.record_ops.specs.InRange.{sound_in_range}
use Rattle.log_turns.specs.Turns.{turn_at, below, below_all, below_some, below_left, below_past, left_tells, past_tells}
use Rattle.areas.specs.Areas.{Areas, count_words, areas, appended}
use Rattle.areas.specs.Layout.{HasUndoing, undoing_at}
use Rattle.areas.specs.Ranges.{records_in}
use Rattle.areas.specs.Tables.{at, undoes}
use Rattle.calls.specs.Marks.{taken_back, went_back}
use Rattle.log_ops.specs.Logs.{Kept, Fits, left_in}
use Rattle.undo_walk.specs.Taking.{back_by, taken_before}

-- record r is a change of t that can be undone, of the pages a, the log g, the counts k and the tables w
pub record Takeable (a g k w : List ℕ) (n t : ℕ) (r : Record) : Type 0 where
  pub fits : Fits a g k (undoing r)
  pub tables : HasUndoing w n (get_or k 0 0 + 1)
  pub object : (1 ≤ r.object) × (r.object ≤ object_count n)
  pub txn : t < 32

-- what the walk needs to undo m changes: sound records, room for the undoing ones, and a word to note each
pub record Goable (a g k w : List ℕ) (n t m : ℕ) : Type 0 where
  pub kept : Kept g k
  pub sound : records_sound n g (get_or k 0 0) ≡ true
  pub pages_len : length a ≡ page_words * n
  pub tables : HasUndoing w n (records_in (length g))
  pub txn : t < txn_count
  pub enough : m ≤ length (left_in g k w n t)
  pub room : get_or k 0 0 + m ≤ records_in (length g)
  pub top : records_in (length g) ≤ max_records

-- the changes that are left from record i down, of the log g, the counts k and the tables w: p more are undone by what stands above
abbrev rest : List ℕ → List ℕ → List ℕ → ℕ → ℕ → ℕ → ℕ → List ℕ
rest g k w n t i p = below (undoes w n) g (get_or k 0 0) t i p

-- the walk at record i with some changes left to undo, and p more that are undone already: it started with pages a₀, log g₀, counts k₀
-- and tables w₀ to undo m changes, and is at a, g, k and w
pub record Going (a₀ g₀ k₀ w₀ : List ℕ) (n t m : ℕ) (a g k w : List ℕ) (i left p : ℕ) : Type 0 where
  pub upto : p + i ≤ get_or k₀ 0 0
  pub enough : left ≤ length (rest g₀ k₀ w₀ n t i p)
  pub pages_len : length a ≡ length a₀
  pub log_len : length g ≡ length g₀
  pub counts_len : length k ≡ length k₀
  pub tables_len : length w ≡ length w₀
  pub since : get_or k₀ 0 0 ≤ get_or k 0 0
  pub count : get_or k 0 0 + left ≡ get_or k₀ 0 0 + m
  pub before : Agree g g₀ (get_or k₀ 0 0)
  pub words : (j : ℕ) → j < get_or k₀ 0 0 → at w (undoing_at n j) ≡ at w₀ (undoing_at n j)
  pub goes : went_back g₀ (take left (rest g₀ k₀ w₀ n t i p)) (areas [] [] a g k w) n t
      ≡ went_back g₀ (take m (left_in g₀ k₀ w₀ n t)) (areas [] [] a₀ g₀ k₀ w₀) n t

-- one change undone
record Taken (g k w g' k' w' : List ℕ) (n c : ℕ) : Type 0 where
  more : get_or k' 0 0 ≡ get_or k 0 0 + 1
  kept : Agree g' g c
  noted : (j : ℕ) → j < c → at w' (undoing_at n j) ≡ at w (undoing_at n j)

taken : (r : Record) (n t : ℕ) (a g k w a' g' k' w' : List ℕ) (c : ℕ) → length k ≡ count_words → c ≤ get_or k 0 0 → (1 ≤ r.object) × (r.object ≤ object_count n) →
    areas [] [] a' g' k' w' ≡ back_by r n t (areas [] [] a g k w) → Taken g k w g' k' w' n c
unfolding appended
taken r n t a g k w a' g' k' w' c two h ob e =
    let lg : g' ≡ recorded g (get_or k 0 0) (undoing r) = ap (λ (s : Areas). s.log) e in
    let lk : k' ≡ set k 0 (get_or k 0 0 + 1) = ap (λ (s : Areas). s.counts) e in
    let lw : w' ≡ taken_back w n t (get_or k 0 0) r = ap (λ (s : Areas). s.work) e in
    record {
      more = ap (λ (x : List ℕ). get_or x 0 0) lk ∙ get_or-set_same k 0 (get_or k 0 0 + 1) 0 (omega arith);
      kept = λ j b. rw lg (recorded_agrees g (get_or k 0 0) (undoing r) c h j b);
      noted = λ j b. rw lw (taken_before w n t (get_or k 0 0) r ob j (omega arith));
    }

-- the newest of the changes to undo, and the rest
went_next : (g : List ℕ) (j : ℕ) (l : List ℕ) (left : ℕ) (s : Areas) (n t : ℕ) → 0 < left →
    went_back g (take (left - 1) l) (back_by (record_at g j) n t s) n t ≡ went_back g (take left (j ∷ l)) s n t
unfolding went_back
went_next g j l zero s n t h = absurd (omega arith)
went_next g j l (suc x) s n t h = let e : suc x - 1 ≡ x = omega arith in rw e

module _ (a₀ g₀ k₀ w₀ : List ℕ) (n t m : ℕ) where
  pub going_start : Goable a₀ g₀ k₀ w₀ n t m → Going a₀ g₀ k₀ w₀ n t m a₀ g₀ k₀ w₀ (get_or k₀ 0 0) m 0
  going_start u =
      let d = below_all (undoes w₀ n) g₀ (get_or k₀ 0 0) t in
      let e = ap length d in
      let h = u.enough in
      record {
        upto = omega arith;
        enough = omega arith;
        pages_len = refl;
        log_len = refl;
        counts_len = refl;
        tables_len = refl;
        since = omega arith;
        count = refl;
        before = λ j l. refl;
        words = λ j l. refl;
        goes = rw d;
      }

  module _ (a g k w : List ℕ) (i left p : ℕ) (u : Goable a₀ g₀ k₀ w₀ n t m) (s : Going a₀ g₀ k₀ w₀ n t m a g k w i left p) (some : 0 < left) where
    down : 0 < length (rest g₀ k₀ w₀ n t i p)
    down = let e = s.enough in omega arith

    pub going_some : 0 < i
    going_some = below_some (undoes w₀ n) g₀ (get_or k₀ 0 0) t i p down

    place : i ≡ i - 1 + 1
    place = let h = going_some in omega arith

    lower : i - 1 < get_or k₀ 0 0
    lower = let h = going_some in let q = s.upto in omega arith

    pub going_inside : (record_words * (i - 1) + record_words ≤ length g) × (undoing_at n (i - 1) < length w) × ((i - 1) ≤ max_records) × (p ≤ max_records)
    going_inside =
        let q = s.upto in let l = s.log_len in let x = s.tables_len in let h = u.kept.inside in let f = u.kept.few in let b = u.tables in let y = u.room in
        (omega arith, omega arith, omega arith, omega arith)

    -- the record below, as the code reads it: r, and its word at b
    module _ (r : Record) (b : ℕ) (er : r ≡ record_at g (i - 1)) (eb : b ≡ undoing_at n (i - 1)) where
      same : r ≡ record_at g₀ (i - 1)
      same = er ∙ s.before (i - 1) lower

      turn_here : turn_at (undoes w₀ n (i - 1)) (record_at g₀ (i - 1)) t p ≡ turn_at (not (eqb (at w b) 0)) r t p
      turn_here =
          ap (λ (x : Record). turn_at (undoes w₀ n (i - 1)) x t p) (sym same)
          ∙ ap (λ (x : ℕ). turn_at (not (eqb x 0)) r t p) (sym (ap (at w) eb ∙ s.words (i - 1) lower))

      from : 0 < length (rest g₀ k₀ w₀ n t ((i - 1) + 1) p)
      from = rw place at down

      -- no change that is left
      pub going_past : (q : ℕ) → turn_at (not (eqb (at w b) 0)) r t p ≡ Some q → Going a₀ g₀ k₀ w₀ n t m a g k w (i - 1) left q
      going_past q e =
          let d : rest g₀ k₀ w₀ n t i p ≡ rest g₀ k₀ w₀ n t (i - 1) q =
          ap (λ (x : ℕ). rest g₀ k₀ w₀ n t x p) place ∙ below_past (undoes w₀ n) g₀ (get_or k₀ 0 0) t (i - 1) p from q (turn_here ∙ e) in
          let pl = place in
          let v = past_tells (not (eqb (at w b) 0)) r t p q e in
          let h = s.upto in
          record {
            upto = omega arith;
            enough = rw d at s.enough;
            pages_len = s.pages_len;
            log_len = s.log_len;
            counts_len = s.counts_len;
            tables_len = s.tables_len;
            since = s.since;
            count = s.count;
            before = s.before;
            words = s.words;
            goes = ap (λ (l : List ℕ). went_back g₀ (take left l) (areas [] [] a g k w) n t) (sym d) ∙ s.goes;
          }

      -- a change that is left
      module _ (e : turn_at (not (eqb (at w b) 0)) r t p ≡ None) where
        change : eqb r.kind 2 || eqb r.kind 3 ≡ true
        change = and_l (eqb r.kind 2 || eqb r.kind 3) (eqb r.txn t) (left_tells (not (eqb (at w b) 0)) r t p e).0

        sound : record_sound n r ≡ true
        sound = ap (record_sound n) same ∙ records_sound_at n g₀ (get_or k₀ 0 0) (i - 1) u.sound lower

        pub going_ready : Takeable a g k w n t r
        going_ready =
            let l = s.pages_len in
            let z = u.pages_len in
            let pages : length a / page_words ≡ n = omega arith in
            let r1 = u.room in
            let r2 = u.top in
            let c = s.count in
            let lg = s.log_len in
            let lw = s.tables_len in
            let b = u.tables in
            let x = u.txn in
            record {
              fits = record {
                in_range_law = sound_in_range a (undoing r) (ap (λ (q : ℕ). record_sound q (undoing r)) pages ∙ undoing_sound n r sound change);
                two = s.counts_len ∙ u.kept.two;
                few = omega arith;
                inside = omega arith;
              };
              tables = (omega arith, omega arith);
              object = named_object n r (sound_record n r sound) (or_l (eqb r.kind 2 || eqb r.kind 3) (eqb r.kind 6) change);
              txn = omega arith;
            }

        pub going_left : (a' g' k' w' : List ℕ) → length a' ≡ length a → length g' ≡ length g → length k' ≡ length k → length w' ≡ length w →
            areas [] [] a' g' k' w' ≡ back_by r n t (areas [] [] a g k w) → Going a₀ g₀ k₀ w₀ n t m a' g' k' w' (i - 1) (left - 1) p
        going_left a' g' k' w' la lg lk lw f =
            let z = taken r n t a g k w a' g' k' w' (get_or k₀ 0 0) (s.counts_len ∙ u.kept.two) s.since going_ready.object f in
            let d : rest g₀ k₀ w₀ n t i p ≡ (i - 1) ∷ rest g₀ k₀ w₀ n t (i - 1) p =
            ap (λ (x : ℕ). rest g₀ k₀ w₀ n t x p) place ∙ below_left (undoes w₀ n) g₀ (get_or k₀ 0 0) t (i - 1) p from (turn_here ∙ e) in
            let pl = place in
            let h = s.upto in
            let o = s.enough in
            let q = ap length d in
            let v = s.since in
            let c = s.count in
            let y = z.more in
            record {
              upto = omega arith;
              enough = omega arith;
              pages_len = la ∙ s.pages_len;
              log_len = lg ∙ s.log_len;
              counts_len = lk ∙ s.counts_len;
              tables_len = lw ∙ s.tables_len;
              since = omega arith;
              count = omega arith;
              before = λ x b. z.kept x b ∙ s.before x b;
              words = λ x b. z.noted x b ∙ s.words x b;
              goes = ap (λ (q : Areas). went_back g₀ (take (left - 1) (rest g₀ k₀ w₀ n t (i - 1) p)) q n t) (f ∙ ap (λ (x : Record). back_by x n t (areas [] [] a g k w)) same)
                  ∙ went_next g₀ (i - 1) (rest g₀ k₀ w₀ n t (i - 1) p) left (areas [] [] a g k w) n t some
                  ∙ ap (λ (l : List ℕ). went_back g₀ (take left l) (areas [] [] a g k w) n t) (sym d)
                  ∙ s.goes;
            }

  none : (l : List ℕ) (s : Areas) → went_back g₀ (take 0 l) s n t ≡ s
  unfolding went_back
  none l s = refl

  pub going_end : (a g k w : List ℕ) (i left p : ℕ) → Going a₀ g₀ k₀ w₀ n t m a g k w i left p → left ≡ 0 →
      areas [] [] a g k w ≡ went_back g₀ (take m (left_in g₀ k₀ w₀ n t)) (areas [] [] a₀ g₀ k₀ w₀) n t
  going_end a g k w i left p s e =
      sym (none (rest g₀ k₀ w₀ n t i p) (areas [] [] a g k w)) ∙ rw e at s.goes
