-- A log with one more record: its records, its open transactions and its soundness. Assumes nothing.
use Prim.Native.Nat.{ℕ, zero, suc, ◌-◌, ◌≤◌, ◌<◌}
use native.Mathlib.Omega.{arith}
use native.Mathlib.Decide.{ℕ_discrete}
use mathlib.Core.Path.{◌≡◌, refl, ap, ◌∙◌}
use mathlib.Core.Bool.{true, ◌&&◌}
use mathlib.Core.List.{List, [], ◌∷◌}
use lib.ListN.{drop}
use Rattle.words.specs.Tests.{all_intro}
use Rattle.records.specs.declared.Record.{Record}
use Rattle.records.specs.Records.{record_at}
use Rattle.records.specs.Soundness.{record_sound}
use Rattle.records.specs.Order.{open_in, open_next, in_order, log_sound}
use Rattle.record_laws.specs.RecordLaws.{open_same}
use Rattle.recovery_proof.specs.Shapes.{shapes, recs}
use Rattle.recovery_proof.proofs.Reopening.{EachSound, InOrder, log_sound_law}

-- two logs with the same first c records
module _ (g h : List ℕ) where
  pub recs_same : (c : ℕ) → ((i : ℕ) → i < c → record_at g i ≡ record_at h i) → recs g c ≡ recs h c
  unfolding recs
  recs_same zero e = refl
  recs_same (suc i) e = rw (e i (omega arith), recs_same i (λ j l. e j (omega arith)))

module _ (n : ℕ) (g : List ℕ) where
  pub log_intro : (c : ℕ) → EachSound n g c → InOrder g c → log_sound n g c ≡ true
  unfolding log_sound
  log_intro c s o = all_intro (λ i. record_sound n (record_at g i) && in_order (open_in g i) (record_at g i)) c (λ i l. rw (s i l, o i l) refl)

  -- the older part of a sound log
  pub log_prefix : (c k : ℕ) → k ≤ c → log_sound n g c ≡ true → log_sound n g k ≡ true
  log_prefix c k l h = let s = log_sound_law n g c h in log_intro k (λ i m. s.0 i (omega arith)) (λ i m. s.1 i (omega arith))

same_order : {q r : Record} {m k : ℕ} → q ≡ r → m ≡ k → in_order k r ≡ true → in_order m q ≡ true
same_order e d h = rw (e, d) h

-- a log h that has r behind the first c records of g
module _ (g h : List ℕ) (c : ℕ) (r : Record) (old : (i : ℕ) → i < c → record_at h i ≡ record_at g i) (new : record_at h c ≡ r) where
  pub recs_more : recs h (suc c) ≡ r ∷ recs g c
  unfolding recs
  recs_more = rw (new, recs_same h g c old)

  pub open_more : open_in h (suc c) ≡ open_next (open_in g c) r
  unfolding open_in
  open_more = ap (λ q. open_next (open_in h c) q) new ∙ ap (λ m. open_next m r) (open_same h g c old)

  pub log_more : (n : ℕ) → log_sound n g c ≡ true → record_sound n r ≡ true → in_order (open_in g c) r ≡ true → log_sound n h (suc c) ≡ true
  log_more n s k o = let z = log_sound_law n g c s in log_intro n h (suc c)
      (λ i l. elim (ℕ_discrete i c) [ yes e ↦ rw (e, new) k | no e ↦ rw (old i (omega arith)) (z.0 i (omega arith)) ])
      (λ i l. elim (ℕ_discrete i c) [
        | yes e ↦ rw e (same_order new (open_same h g c old) o)
        | no e ↦ same_order (old i (omega arith)) (open_same h g i (λ j m. old j (omega arith))) (z.1 i (omega arith))
      ])

-- the lines of fewer records
pub shapes_drop : (j : ℕ) (rs : List Record) → drop j (shapes rs) ≡ shapes (drop j rs)
unfolding shapes
shapes_drop zero rs = refl
shapes_drop (suc j) [] = refl
shapes_drop (suc j) (r ∷ rs) = shapes_drop j rs

pub recs_drop : (g : List ℕ) (c k : ℕ) → k ≤ c → drop (c - k) (recs g c) ≡ recs g k
unfolding recs
recs_drop g zero k l = let e : k ≡ 0 = omega arith in rw e refl
recs_drop g (suc c) k l = elim (ℕ_discrete k (suc c)) [
  | yes e ↦ (let z : suc c - k ≡ 0 = omega arith in rw (z, e) refl)
  | no e ↦ (let z : suc c - k ≡ suc (c - k) = omega arith in rw z (recs_drop g c k (omega arith)))
]
