-- The recovered pages, made in place: the turns of the loops. Assumes nothing.
use Rattle.std.specs.Prelude.{ℕ, zero, suc, ◌+◌, ◌*◌, ◌-◌, ◌/◌, ◌<◌, ◌≤◌, ◌≡◌, refl, Bool, true, false, List, length, eqb}
use Rattle.std.proofs.Common.{sym, ap, ◌∙◌, arith}
use Rattle.words.specs.Tests.{if}
use Rattle.words.specs.Bits.{bit, without_bit, bit_none}
use Rattle.pages.specs.Geometry.{page_words}
use Rattle.records.specs.declared.Record.{Record}
use Rattle.records.specs.Records.{record_at}
use Rattle.records.specs.Soundness.{record_sound, records_sound}
use Rattle.records.specs.Effects.{effect, undone}
use Rattle.records.specs.Order.{open_in}
use Rattle.records.specs.Recovery.{redone, undone_in, recovered}
use Rattle.record_laws.specs.RecordLaws.{redone_next, records_sound_at}
use Rattle.record_laws.specs.EffectLaws.{length_redone}

if_same : (b : Bool) (x : ℕ) → if b x x ≡ x
if_same true x = refl
if_same false x = refl

without_none : (t : ℕ) → without_bit 0 t ≡ 0
unfolding without_bit
without_none t = rw (bit_none t)

-- 'undone back to that begin': the mask without the transaction that a record begins
abbrev pub leaving : ℕ → Record → ℕ
leaving m r = if (eqb r.kind 1) (without_bit m r.txn) m

-- 'Transactions without kind 4 or 5 after their last begin are undone': a record is, if it is of one of them, those of mask m
abbrev pub taken_back : ℕ → List ℕ → Record → List ℕ
taken_back m a r = if (bit m r.txn) (undone a r) a

pub redone_turn : (a g : List ℕ) (i : ℕ) (x : List ℕ) (r : Record) → x ≡ redone a g i → r ≡ record_at g i → effect x r ≡ redone a g (i + 1)
redone_turn a g i x r e f = ap (λ (y : List ℕ). effect y r) e ∙ ap (effect (redone a g i)) f ∙ redone_next a g i

-- record i - 1 is undone, and those before it are left
pub undone_down : (g : List ℕ) (m i : ℕ) (a : List ℕ) {m' : ℕ} {x : List ℕ} (r : Record) → 0 < i → r ≡ record_at g (i - 1)
    → m' ≡ leaving m r → x ≡ taken_back m a r → undone_in g m' (i - 1) x ≡ undone_in g m i a
unfolding undone_in
undone_down g m zero a r l er em ex = absurd (omega arith)
undone_down g m (suc j) a r l er em ex = let z : suc j - 1 ≡ j = omega arith in rw (em, ex, er, z)

pub undone_end : (g : List ℕ) (m i : ℕ) (a : List ℕ) → i ≤ 0 → a ≡ undone_in g m i a
unfolding undone_in
undone_end g m zero a l = refl
undone_end g m (suc i) a l = absurd (omega arith)

-- once no transaction is left there is nothing to undo
pub undone_none : (g : List ℕ) (m i : ℕ) (a : List ℕ) → m ≡ 0 → a ≡ undone_in g m i a
unfolding undone_in
undone_none g m zero a e = refl
undone_none g m (suc i) a e = let r = record_at g i in
    let kept : leaving m r ≡ 0 = rw (e, without_none r.txn) (if_same (eqb r.kind 1) 0) in
    let same : taken_back m a r ≡ a = rw (e, bit_none r.txn) in
    undone_none g (leaving m r) i a kept ∙ ap (undone_in g (leaving m r) i) (sym same)

-- a record of the log, for an area as long as the one that the log is sound for
pub sound_here : (a x g : List ℕ) (c i : ℕ) (r : Record) → length x ≡ length a → r ≡ record_at g i → records_sound (length a / page_words) g c ≡ true → i < c
    → record_sound (length x / page_words) r ≡ true
sound_here a x g c i r e f h l = rw e (ap (record_sound (length a / page_words)) f ∙ records_sound_at (length a / page_words) g c i h l)

-- a log sound for n pages, the stored pages a, is so for what is made of them
module _ (n : ℕ) (a g : List ℕ) (c : ℕ) (len : length a ≡ page_words * n) (sound : records_sound n g c ≡ true) where
  as_long : (x : List ℕ) → length x ≡ length a → records_sound (length x / page_words) g c ≡ true
  as_long x e = let z : length x / page_words ≡ n = omega arith in rw z sound

  pub sound_copied : (x : List ℕ) → x ≡ a → records_sound (length x / page_words) g c ≡ true
  sound_copied x e = as_long x (ap length e)

  pub sound_redone : (x y : List ℕ) → x ≡ a → y ≡ redone x g c → records_sound (length y / page_words) g c ≡ true
  sound_redone x y e f = as_long y (ap length f ∙ length_redone x g c ∙ ap length e)

-- all of it: b holds the stored pages, x them redone, y the undone
pub rebuilt : (a g : List ℕ) (c m : ℕ) (b x y : List ℕ) → m ≡ open_in g c → b ≡ a → x ≡ redone b g c → y ≡ undone_in g m c x → y ≡ recovered a g c
unfolding recovered
rebuilt a g c m b x y em eb ex ey = rw (ey, ex, eb, em)
