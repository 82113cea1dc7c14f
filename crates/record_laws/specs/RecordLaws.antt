-- Laws of log records: one written and read back, what a sound one says, and what depends on the first records of a log only.
-- Assumes nothing.
use Prim.Native.Nat.{ℕ, zero, suc, ◌+◌, ◌*◌, ◌<◌, ◌≤◌, ◌^◌}
use Rattle.std.specs.Prelude.{◌≡◌, Bool, true, false, not, ◌&&◌, ◌||◌, List, [], ◌∷◌, length, get_or, set, drop, leb, ltb, eqb}
use Rattle.std.proofs.Math.Path.{refl, ap}
use Rattle.std.proofs.Common.{sym, ◌∙◌, inl, inr, length-set, length-drop, get_or-set_same, get_or-set_other, add-one, arith, ltb-true, leb-true, eqb-true, lt-ltb, le-leb, eq-eqb, ne_eqb}
use Rattle.std.proofs.Math.Decide.{ℕ_discrete}
use Rattle.std.proofs.lemmas.Bool.{eqb-false, not-true, lt-leb}
use Rattle.words.specs.Tests.{if, all, any, by_bool, clash, if_t, if_f, and_t, and_f, and_false, and_l, and_r, or_cases, or_false_l, or_false_r, all_at, all_end, all_next, all_stop, all_intro, any_next, any_same}
use Rattle.words.specs.Bits.{bit}
use Rattle.pages.specs.Geometry.{is_object, object_count, slot_words, slot_count, map_top}
use Rattle.page_laws.specs.Places.{object_range}
use Rattle.records.specs.declared.Record.{Record}
use Rattle.records.specs.Records.{made, record_at, recorded, is_begin, is_change, changes_object, is_sweep, record_words, txn_count}
use Rattle.records.specs.Soundness.{txn_sound, names_object, object_sound, field_sound, new_sound, reference_sound, word_sound, record_sound, records_sound}
use Rattle.records.specs.Order.{open_next, open_in, in_order, log_sound}
use Rattle.records.specs.Changes.{changes_in, changes_left}
use Rattle.records.specs.Naming.{names_page, page_named}
use Rattle.records.specs.Effects.{effect}
use Rattle.records.specs.Recovery.{redone}

-- tests

-- what a choice and a conjunction ask, asked of more
if_map : (b : Bool) {x y v w : Bool} → (x ≡ true → v ≡ true) → (y ≡ true → w ≡ true) → if b x y ≡ true → if b v w ≡ true
if_map true f g = f
if_map false f g = g

and_map : {a b c d : Bool} → (a ≡ true → c ≡ true) → (b ≡ true → d ≡ true) → a && b ≡ true → c && d ≡ true
and_map {a} {b} f g h = rw (f (and_l a b h), g (and_r a b h))

or_map : (a : Bool) {b d : Bool} → (b ≡ true → d ≡ true) → a || b ≡ true → a || d ≡ true
or_map true f h = refl
or_map false f h = f h

pub or_f : (a b : Bool) → a ≡ false → a || b ≡ b
or_f a b e = rw e

-- a record written

pub recorded_length : (g : List ℕ) (i : ℕ) (r : Record) → length (recorded g i r) ≡ length g
recorded_length g i r = simp length-set

-- a word outside of it
recorded_word : (g : List ℕ) (i : ℕ) (r : Record) (p : ℕ) → ((k : ℕ) → k < 6 → p ≡ record_words * i + k → ⊥) → get_or (recorded g i r) p 0 ≡ get_or g p 0
recorded_word g i r p n =
    let n₀ : p ≡ record_words * i → ⊥ = λ e. n 0 (omega arith) (omega arith) in
    let n₁ = n 1 (omega arith) in
    let n₂ = n 2 (omega arith) in
    let n₃ = n 3 (omega arith) in
    let n₄ = n 4 (omega arith) in
    let n₅ = n 5 (omega arith) in
    simp get_or-set_other

made_same : {k t o f a b k' t' o' f' a' b' : ℕ} → k ≡ k' → t ≡ t' → o ≡ o' → f ≡ f' → a ≡ a' → b ≡ b' → made k t o f a b ≡ made k' t' o' f' a' b'
made_same p q u v x y = cc

pub recorded_other : (g : List ℕ) (i : ℕ) (r : Record) (j : ℕ) → (j ≡ i → ⊥) → record_at (recorded g i r) j ≡ record_at g j
recorded_other g i r j n =
    made_same
    (recorded_word g i r (record_words * j) (λ k l e. n (omega arith)))
    (recorded_word g i r (record_words * j + 1) (λ k l e. n (omega arith)))
    (recorded_word g i r (record_words * j + 2) (λ k l e. n (omega arith)))
    (recorded_word g i r (record_words * j + 3) (λ k l e. n (omega arith)))
    (recorded_word g i r (record_words * j + 4) (λ k l e. n (omega arith)))
    (recorded_word g i r (record_words * j + 5) (λ k l e. n (omega arith)))

-- a word that stands before one written
past : (g : List ℕ) (p q v : ℕ) → q < p → get_or (set g p v) q 0 ≡ get_or g q 0
past g p q v h = get_or-set_other g p q v 0 (λ e. omega arith)

pub recorded_same : (g : List ℕ) (i : ℕ) (r : Record) → record_words * i + record_words ≤ length g → record_at (recorded g i r) i ≡ r
recorded_same g i r h =
    let g₁ = set g (record_words * i) r.kind in
    let g₂ = set g₁ (record_words * i + 1) r.txn in
    let g₃ = set g₂ (record_words * i + 2) r.object in
    let g₄ = set g₃ (record_words * i + 3) r.field in
    let g₅ = set g₄ (record_words * i + 4) r.old in
    made_same
    (past g₅ (record_words * i + 5) (record_words * i) r.new (omega arith)
    ∙ past g₄ (record_words * i + 4) (record_words * i) r.old (omega arith)
    ∙ past g₃ (record_words * i + 3) (record_words * i) r.field (omega arith)
    ∙ past g₂ (record_words * i + 2) (record_words * i) r.object (omega arith)
    ∙ past g₁ (record_words * i + 1) (record_words * i) r.txn (omega arith)
    ∙ get_or-set_same g (record_words * i) r.kind 0 (omega arith))
    (past g₅ (record_words * i + 5) (record_words * i + 1) r.new (omega arith)
    ∙ past g₄ (record_words * i + 4) (record_words * i + 1) r.old (omega arith)
    ∙ past g₃ (record_words * i + 3) (record_words * i + 1) r.field (omega arith)
    ∙ past g₂ (record_words * i + 2) (record_words * i + 1) r.object (omega arith)
    ∙ get_or-set_same g₁ (record_words * i + 1) r.txn 0 (simp length-set (omega arith)))
    (past g₅ (record_words * i + 5) (record_words * i + 2) r.new (omega arith)
    ∙ past g₄ (record_words * i + 4) (record_words * i + 2) r.old (omega arith)
    ∙ past g₃ (record_words * i + 3) (record_words * i + 2) r.field (omega arith)
    ∙ get_or-set_same g₂ (record_words * i + 2) r.object 0 (simp length-set (omega arith)))
    (past g₅ (record_words * i + 5) (record_words * i + 3) r.new (omega arith)
    ∙ past g₄ (record_words * i + 4) (record_words * i + 3) r.old (omega arith)
    ∙ get_or-set_same g₃ (record_words * i + 3) r.field 0 (simp length-set (omega arith)))
    (past g₅ (record_words * i + 5) (record_words * i + 4) r.new (omega arith)
    ∙ get_or-set_same g₄ (record_words * i + 4) r.old 0 (simp length-set (omega arith)))
    (get_or-set_same g₅ (record_words * i + 5) r.new 0 (simp length-set (omega arith)))

-- soundness

pub word_sound_new : (n : ℕ) (r : Record) (w : ℕ) → (w ≡ 0 → ⊥) → (w ≡ 1 → ⊥) → (w ≡ 2 → ⊥) → (w ≡ 3 → ⊥) → (w ≡ 4 → ⊥) → new_sound n r ≡ word_sound n r w
unfolding word_sound
word_sound_new n r w a b d e f = simp (ne_eqb w 0 a, ne_eqb w 1 b, ne_eqb w 2 d, ne_eqb w 3 e, ne_eqb w 4 f)

-- a record whose words were all passed, and one with a word that was not
pub words_sound : (n : ℕ) (r s : Record) (w : ℕ) → r ≡ s → w ≤ 6 → 6 ≤ w → all (word_sound n r) w ≡ true → record_sound n s ≡ true
unfolding record_sound
words_sound n r s w e h k p = ap (record_sound n) (sym e) ∙ sym (all_end _ 6 w h k p)

pub word_unsound : (n : ℕ) (r s : Record) (w : ℕ) → r ≡ s → w < 6 → word_sound n r w ≡ false → record_sound n s ≡ false
unfolding record_sound
word_unsound n r s w e h p = ap (record_sound n) (sym e) ∙ all_stop _ 6 w h p

pub records_sound_at : (n : ℕ) (g : List ℕ) (c i : ℕ) → records_sound n g c ≡ true → i < c → record_sound n (record_at g i) ≡ true
unfolding records_sound
records_sound_at n g c i h l = all_at (λ j. record_sound n (record_at g j)) c i h l

pub log_sound_records : (n : ℕ) (g : List ℕ) (c : ℕ) → log_sound n g c ≡ true → records_sound n g c ≡ true
unfolding log_sound records_sound
log_sound_records n g c h = all_intro _ c (λ i l. and_l _ (in_order (open_in g i) (record_at g i)) (all_at (λ j. record_sound n (record_at g j) && in_order (open_in g j) (record_at g j)) c i h l))

-- a record that is sound among n pages is sound among more
leb_wider : {n m : ℕ} (x : ℕ) → n ≤ m → leb x (object_count n) ≡ true → leb x (object_count m) ≡ true
leb_wider {n} {m} x l h = le-leb x (object_count m) (let k = leb-true x (object_count n) h in omega arith)

ltb_wider : {n m : ℕ} (x : ℕ) → n ≤ m → ltb x n ≡ true → ltb x m ≡ true
ltb_wider {n} {m} x l h = lt-ltb x m (let k = ltb-true x n h in omega arith)

reference_wider : {n m : ℕ} (r : Record) (v : ℕ) → n ≤ m → reference_sound n r v ≡ true → reference_sound m r v ≡ true
reference_wider r v l = or_map (leb 4 r.field) (leb_wider v l)

all_six : (f : ℕ → Bool) → f 0 ≡ true → f 1 ≡ true → f 2 ≡ true → f 3 ≡ true → f 4 ≡ true → f 5 ≡ true → all f 6 ≡ true
unfolding all
all_six f a b c d e g = rw (a, b, c, d, e, g)

object_wider : (n m : ℕ) (r : Record) → n ≤ m → object_sound n r ≡ true → object_sound m r ≡ true
object_wider n m r l =
    if_map (names_object r)
    (and_map {b = eqb r.kind 3 || not (eqb r.object 1)} (and_map {a = leb 1 r.object} (λ e. e) (leb_wider r.object l)) (λ e. e))
    (if_map (eqb r.kind 7) (ltb_wider r.object l) (λ e. e))

pub record_sound_wider : (n m : ℕ) (r : Record) → n ≤ m → record_sound n r ≡ true → record_sound m r ≡ true
unfolding record_sound word_sound
record_sound_wider n m r l h =
    all_six (word_sound m r)
    (word 0 (omega arith))
    (word 1 (omega arith))
    (object_wider n m r l (word 2 (omega arith)))
    (word 3 (omega arith))
    (if_map (eqb r.kind 3) (reference_wider r r.old l) (λ e. e) (word 4 (omega arith)))
    (if_map (eqb r.kind 3) (reference_wider r r.new l) (λ e. e) (word 5 (omega arith)))
  where
    word : (w : ℕ) → w < 6 → word_sound n r w ≡ true
    word w k = all_at (word_sound n r) 6 w h k

pub records_sound_wider : (n m : ℕ) (g : List ℕ) (c : ℕ) → n ≤ m → records_sound n g c ≡ true → records_sound m g c ≡ true
unfolding records_sound
records_sound_wider n m g c l h = all_intro _ c (λ i k. record_sound_wider n m (record_at g i) l (all_at (λ j. record_sound n (record_at g j)) c i h k))

-- what a sound record among n pages says, by its kind
pub record SoundRecord (n : ℕ) (r : Record) : Type 0 where
  pub kind_from : 1 ≤ r.kind
  pub kind_to : r.kind ≤ 7
  pub txn_below : r.txn < txn_count
  pub field_below : r.field < slot_words
  pub create : r.kind ≡ 2 → (1 < r.object) × (r.object ≤ object_count n)
  pub write : r.kind ≡ 3 → (1 ≤ r.object) × (r.object ≤ object_count n)
  pub uncreate : r.kind ≡ 6 → (1 < r.object) × (r.object ≤ object_count n)
  pub sweep : r.kind ≡ 7 → (r.object < n) × (r.new < 2 ^ slot_count)
  pub sweep_txn : r.kind ≡ 7 → r.txn ≡ 0
  pub sweep_root : r.kind ≡ 7 → r.object ≡ 0 → bit r.new 0 ≡ false
  pub old_reference : r.kind ≡ 3 → r.field < 4 → r.old ≤ object_count n
  pub new_reference : r.kind ≡ 3 → r.field < 4 → r.new ≤ object_count n
  pub object_unused : names_page r ≡ false → r.object ≡ 0
  pub field_unused : (r.kind ≡ 3 → ⊥) → r.field ≡ 0
  pub old_unused : (r.kind ≡ 3 → ⊥) → r.old ≡ 0
  pub new_unused : (r.kind ≡ 3 → ⊥) → (r.kind ≡ 7 → ⊥) → r.new ≡ 0

-- an object that a record names, and one that is not the root
named : (n o : ℕ) (x : Bool) → is_object n o && x ≡ true → (1 ≤ o) × (o ≤ object_count n)
named n o x h = object_range n o (and_l (is_object n o) x h)

named_not_root : (n o : ℕ) → is_object n o && not (eqb o 1) ≡ true → (1 < o) × (o ≤ object_count n)
named_not_root n o h =
    let p = named n o (not (eqb o 1)) h in
    let e = eqb-false o 1 (not-true (eqb o 1) (and_r (is_object n o) (not (eqb o 1)) h)) in
    (elim (ℕ_discrete o 1) [ yes q ↦ absurd (e q) | no q ↦ (omega arith) ], p.1)

sound_txn : (r : Record) → txn_sound r ≡ true → r.txn < txn_count
sound_txn r h = by_bool (eqb r.kind 7)
    (λ e. let k : r.txn ≡ 0 = eqb-true _ _ (sym (if_t _ _ (ltb r.txn txn_count) e) ∙ h) in omega arith)
    (λ e. ltb-true _ _ (sym (if_f _ (eqb r.txn 0) _ e) ∙ h))

sound_field : (r : Record) → field_sound r ≡ true → r.field < slot_words
sound_field r h = by_bool (eqb r.kind 3)
    (λ e. ltb-true _ _ (sym (if_t _ _ (eqb r.field 0) e) ∙ h))
    (λ e. let k : r.field ≡ 0 = eqb-true _ _ (sym (if_f _ (ltb r.field 8) _ e) ∙ h) in omega arith)

sound_reference : (n f v : ℕ) → leb 4 f || leb v (object_count n) ≡ true → f < 4 → v ≤ object_count n
sound_reference n f v h l = leb-true v (object_count n) (rw (lt-leb 4 f l) at h)

pub sound_record : (n : ℕ) (r : Record) → record_sound n r ≡ true → SoundRecord n r
unfolding record_sound word_sound
sound_record n r h = record {
  kind_from = leb-true 1 r.kind (and_l (leb 1 r.kind) (leb r.kind 7) (word 0 (omega arith)));
  kind_to = leb-true r.kind 7 (and_r (leb 1 r.kind) (leb r.kind 7) (word 0 (omega arith)));
  txn_below = sound_txn r (word 1 (omega arith));
  field_below = sound_field r (word 3 (omega arith));
  create = λ e. named_not_root n r.object (rw e at (word 2 (omega arith)));
  write = λ e. named n r.object true (rw e at (word 2 (omega arith)));
  uncreate = λ e. named_not_root n r.object (rw e at (word 2 (omega arith)));
  sweep = λ e. (ltb-true r.object n (rw e at (word 2 (omega arith))), swept_map e);
  sweep_txn = λ e. eqb-true r.txn 0 (rw e at (word 1 (omega arith)));
  sweep_root = swept_root;
  old_reference = λ e. sound_reference n r.field r.old (rw e at (word 4 (omega arith)));
  new_reference = λ e. sound_reference n r.field r.new (rw e at (word 5 (omega arith)));
  object_unused = unused_object;
  field_unused = λ e. eqb-true r.field 0 (rw (ne_eqb r.kind 3 e) at (word 3 (omega arith)));
  old_unused = λ e. eqb-true r.old 0 (rw (ne_eqb r.kind 3 e) at (word 4 (omega arith)));
  new_unused = λ e f. eqb-true r.new 0 (rw (ne_eqb r.kind 3 e, ne_eqb r.kind 7 f) at (word 5 (omega arith)));
}
  where
    word : (w : ℕ) → w < 6 → word_sound n r w ≡ true
    word w k = all_at (word_sound n r) 6 w h k

    map : r.kind ≡ 7 → leb r.new map_top && not (eqb r.object 0 && bit r.new 0) ≡ true
    map e = rw e at (word 5 (omega arith))

    swept_map : r.kind ≡ 7 → r.new < 2 ^ slot_count
    swept_map e = let k = leb-true r.new map_top (and_l (leb r.new map_top) (not (eqb r.object 0 && bit r.new 0)) (map e)) in omega arith

    swept_root : r.kind ≡ 7 → r.object ≡ 0 → bit r.new 0 ≡ false
    swept_root e z = ap (λ (b : Bool). b && bit r.new 0) (sym (eq-eqb r.object 0 z)) ∙ not-true (eqb r.object 0 && bit r.new 0) (and_r (leb r.new map_top) (not (eqb r.object 0 && bit r.new 0)) (map e))

    unused_object : names_page r ≡ false → r.object ≡ 0
    unused_object e = eqb-true r.object 0 (rw (or_false_l (names_object r) (is_sweep r) e, or_false_r (names_object r) (is_sweep r) e) at (word 2 (omega arith)))

pub record_facts : (n : ℕ) (g : List ℕ) (c i : ℕ) (r : Record) → r ≡ record_at g i → records_sound n g c ≡ true → i < c → SoundRecord n r
record_facts n g c i r e h l = sound_record n r (ap (record_sound n) e ∙ records_sound_at n g c i h l)

-- a sound record that names a page names one of them, by its object unless it is a sweep
named_kinds : {A : Type 0} (r : Record) → names_object r ≡ true → (r.kind ≡ 2 → A) → (r.kind ≡ 3 → A) → (r.kind ≡ 6 → A) → A
named_kinds r e a b d = elim (or_cases (eqb r.kind 2 || eqb r.kind 3) (eqb r.kind 6) e) [
  | inl p ↦ (elim (or_cases (eqb r.kind 2) (eqb r.kind 3) p) [ inl q ↦ a (eqb-true _ _ q) | inr q ↦ b (eqb-true _ _ q) ])
  | inr p ↦ d (eqb-true _ _ p)
]

pub named_object : (n : ℕ) (r : Record) → SoundRecord n r → names_object r ≡ true → (1 ≤ r.object) × (r.object ≤ object_count n)
named_object n r s e = named_kinds r e
    (λ k. let h = s.create k in (omega arith, h.1))
    s.write
    (λ k. let h = s.uncreate k in (omega arith, h.1))

pub named_from : (n : ℕ) (r : Record) → SoundRecord n r → names_page r ≡ true → is_sweep r ≡ false → 1 ≤ r.object
named_from n r s e f = elim (or_cases (names_object r) (is_sweep r) e) [ inl p ↦ (named_object n r s p).0 | inr p ↦ clash p f ]

pub named_below : (n : ℕ) (r : Record) → SoundRecord n r → names_page r ≡ true → page_named r < n
named_below n r s e = by_bool (is_sweep r)
    (λ f. rw f (s.sweep (eqb-true _ _ f)).0)
    (λ f. elim (or_cases (names_object r) (is_sweep r) e) [ inl p ↦ rw f (let h = named_object n r s p in omega arith) | inr p ↦ clash p f ])

-- one more record

pub open_next_law : (g : List ℕ) (i m : ℕ) (r : Record) → m ≡ open_in g i → r ≡ record_at g i → open_next m r ≡ open_in g (i + 1)
unfolding open_in
open_next_law g i m r e f = ap (λ (x : ℕ). open_next x r) e ∙ ap (open_next (open_in g i)) f ∙ ap (open_in g) (sym (add-one i))

-- the test that log_sound makes of record i
abbrev pub next_sound : ℕ → List ℕ → ℕ → Bool
next_sound n g i = record_sound n (record_at g i) && in_order (open_in g i) (record_at g i)

module _ (n : ℕ) (g : List ℕ) (i m : ℕ) (r : Record) (e : m ≡ open_in g i) (f : r ≡ record_at g i) where
  pub next_by : next_sound n g i ≡ record_sound n r && in_order m r
  next_by = ap (λ (s : Record). record_sound n s && in_order (open_in g i) s) (sym f) ∙ ap (λ (x : ℕ). record_sound n r && in_order x r) (sym e)

  pub next_sound_law : record_sound n r ≡ true → in_order m r ≡ true → next_sound n g i ≡ true
  next_sound_law p q = next_by ∙ and_t _ _ p ∙ q

  pub next_unsound : record_sound n r ≡ false → next_sound n g i ≡ false
  next_unsound p = next_by ∙ and_f _ _ p

  pub next_unordered : in_order m r ≡ false → next_sound n g i ≡ false
  next_unordered p = next_by ∙ ap (λ (b : Bool). record_sound n r && b) p ∙ and_false (record_sound n r)

pub records_sound_next : (n : ℕ) (g : List ℕ) (i : ℕ) → records_sound n g i && record_sound n (record_at g i) ≡ records_sound n g (i + 1)
unfolding records_sound
records_sound_next n g i = all_next (λ j. record_sound n (record_at g j)) i

-- a transaction's begins and changes
abbrev pub begun_in : List ℕ → ℕ → ℕ → Bool
begun_in g t c = any (λ i. is_begin (record_at g i) t) c

-- b: going back appended record i, which is r
abbrev pub changes_next : Bool → ℕ → ℕ → Record → List ℕ → List ℕ
changes_next b t i r before = if (is_begin r t) [] (if (b && changes_object r t) (drop 1 before) (if (is_change r t) (i ∷ before) before))

-- at most one for each record
pub changes_le : (u : ℕ → Bool) (g : List ℕ) (t c : ℕ) → length (changes_in u g t c) ≤ c
unfolding changes_in
changes_le u g t zero = omega arith
changes_le u g t (suc i) =
    let r = record_at g i in
    let l = changes_in u g t i in
    let h = changes_le u g t i in
    by_bool (is_begin r t)
    (λ e. rw e (omega arith))
    (λ e. by_bool (u i && changes_object r t)
    (λ d. rw (e, d, length-drop 1 l) (omega arith))
    (λ d. by_bool (is_change r t) (λ f. rw (e, d, f) (omega arith)) (λ f. rw (e, d, f) (omega arith))))

pub left_le : (u : ℕ → Bool) (g : List ℕ) (c t : ℕ) → length (changes_left u g c t) ≤ c
unfolding changes_left
left_le u g c t = by_bool (begun_in g t c) (λ e. rw e (changes_le u g t c)) (λ e. rw e (omega arith))

pub changes_next_law : (u : ℕ → Bool) (g : List ℕ) (t i : ℕ) → changes_next (u i) t i (record_at g i) (changes_in u g t i) ≡ changes_in u g t (i + 1)
unfolding changes_in
changes_next_law u g t i = ap (changes_in u g t) (sym (add-one i))

pub redone_next : (a g : List ℕ) (i : ℕ) → effect (redone a g i) (record_at g i) ≡ redone a g (i + 1)
unfolding redone
redone_next a g i = ap (redone a g) (sym (add-one i))

-- two logs with the same first c records

abbrev pub Agree : List ℕ → List ℕ → ℕ → Type 0
Agree g h c = (i : ℕ) → i < c → record_at g i ≡ record_at h i

pub recorded_agrees : (g : List ℕ) (i : ℕ) (r : Record) (c : ℕ) → c ≤ i → Agree (recorded g i r) g c
recorded_agrees g i r c l j k = recorded_other g i r j (λ e. omega arith)

module _ (g h : List ℕ) where
  pub open_same : (c : ℕ) → Agree g h c → open_in g c ≡ open_in h c
  unfolding open_in
  open_same zero a = refl
  open_same (suc i) a =
      ap (λ (m : ℕ). open_next m (record_at g i)) (open_same i (λ j l. a j (omega arith)))
      ∙ ap (open_next (open_in h i)) (a i (omega arith))

  pub begun_same : (t c : ℕ) → Agree g h c → begun_in g t c ≡ begun_in h t c
  begun_same t c a = any_same _ _ c (λ i l. ap (λ (r : Record). is_begin r t) (a i l))

  -- u and v, the tests of what going back appended, agree too
  pub changes_same : (u v : ℕ → Bool) (t c : ℕ) → ((i : ℕ) → i < c → u i ≡ v i) → Agree g h c → changes_in u g t c ≡ changes_in v h t c
  unfolding changes_in
  changes_same u v t zero d a = refl
  changes_same u v t (suc i) d a =
      ap (changes_next (u i) t i (record_at g i)) (changes_same u v t i (λ j l. d j (omega arith)) (λ j l. a j (omega arith)))
      ∙ ap (λ (b : Bool). changes_next b t i (record_at g i) (changes_in v h t i)) (d i (omega arith))
      ∙ ap (λ (r : Record). changes_next (v i) t i r (changes_in v h t i)) (a i (omega arith))

-- a record appended

module _ (g : List ℕ) (c : ℕ) (r : Record) (h : record_words * c + record_words ≤ length g) where
  same_before : Agree (recorded g c r) g c
  same_before = recorded_agrees g c r c (omega arith)

  pub open_append : open_in (recorded g c r) (c + 1) ≡ open_next (open_in g c) r
  open_append = sym (open_next_law (recorded g c r) c (open_in g c) r (sym (open_same (recorded g c r) g c same_before)) (sym (recorded_same g c r h)))

  pub begun_append : (t : ℕ) → begun_in (recorded g c r) t (c + 1) ≡ begun_in g t c || is_begin r t
  begun_append t =
      sym (any_next (λ i. is_begin (record_at (recorded g c r) i) t) c)
      ∙ ap (λ (b : Bool). b || is_begin (record_at (recorded g c r) c) t) (begun_same (recorded g c r) g t c same_before)
      ∙ ap (λ (s : Record). begun_in g t c || is_begin s t) (recorded_same g c r h)

  -- v notes what u notes of the records before
  pub changes_append : (u v : ℕ → Bool) (t : ℕ) → ((i : ℕ) → i < c → v i ≡ u i) → changes_in v (recorded g c r) t (c + 1) ≡ changes_next (v c) t c r (changes_in u g t c)
  changes_append u v t d =
      sym (changes_next_law v (recorded g c r) t c)
      ∙ ap (changes_next (v c) t c (record_at (recorded g c r) c)) (changes_same (recorded g c r) g v u t c d same_before)
      ∙ ap (λ (s : Record). changes_next (v c) t c s (changes_in u g t c)) (recorded_same g c r h)
