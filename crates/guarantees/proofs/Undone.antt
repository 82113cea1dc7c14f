-- A change undone, going back, an abort and a mark keep a store fine. n is the number of pages. Assumes nothing.
use Prim.Native.Nat.{ℕ, zero, suc, ◌+◌, ◌*◌, ◌≤◌, ◌<◌}
use native.Mathlib.Omega.{arith}
use mathlib.Core.Path.{◌≡◌, refl, sym, ap, ◌∙◌, subst}
use mathlib.Core.Bool.{true}
use mathlib.Core.List.{List}
use lib.ListN.{length, length-set}
use lib.Seq.{get_or-set_same}
use Rattle.words.specs.Tests.{by_bool}
use Rattle.pages.specs.Geometry.{page_words}
use Rattle.pages.specs.Soundness.{area_sound}
use Rattle.page_laws.specs.SoundFacts.{copied_sound}
use Rattle.records.specs.Records.{txn_count, aborted_of}
use Rattle.records.specs.Effects.{effect, undoing}
use Rattle.record_laws.specs.RecordLaws.{recorded_length}
use Rattle.areas.specs.Areas.{Areas, received_count, with_work, with_copies, appended}
use Rattle.areas.specs.Layout.{mark_count}
use Rattle.areas.specs.Ranges.{records_in}
use Rattle.areas.specs.Tables.{can_write, undoes}
use Rattle.areas.specs.Entry.{records}
use Rattle.calls.specs.Marks.{order_of, mark_set, since_mark, taken_back, went_back, back_to}
use Rattle.calls.specs.Transactions.{restored, aborted, ended_tables, changes_of}
use Rattle.acceptance.specs.Entered.{Open}
use Rattle.acceptance.specs.Lengths.{Sized}
use Rattle.acceptance.specs.Transactions.{AbortFacts}
use Rattle.acceptance.specs.Marks.{MarkFacts, BackFacts}
use Rattle.book.specs.Lines.{line, left, undone_lines}
use Rattle.book.specs.Books.{Book}
use Rattle.book.specs.Feeding as Feeding
use Rattle.book.specs.Feeding.{goes_back, marks}
use Rattle.machine_calls.proofs.Facts.{act_is}
use Rattle.recovery_proof.proofs.Changes.{changes_left_law, changes_few}
use Rattle.book_laws.specs.Keeping.{Runs}
use Rattle.book_laws.specs.After.{aborted_by}
use Rattle.book_laws.proofs.Undoing.{newest}
use Rattle.book_laws.proofs.Ending.{abort_committed}
use Rattle.demand.proofs.State.{machine, OpenInv}
use Rattle.demand.proofs.Change.{machine_shows}
use Rattle.demand.proofs.Restored.{length_restored}
use Rattle.demand.proofs.Undo.{ok, ranged, longer, area_small, there_then, alike_all, alike_part, undone_kept}
use Rattle.demand.proofs.Went.{Went}
use Rattle.demand.proofs.GoneBack.{went_with}
use Rattle.demand.proofs.Abort as Abort
use Rattle.demand.proofs.Abort.{words_count}
use Rattle.demand.proofs.Marks as Marks
use Rattle.guarantees.proofs.Tables.{Within, ended_within, mark_within, dropped_within, taken_back_within}
use Rattle.guarantees.proofs.Reserve.{share_held, share_runs, held_end, held_undo}
use Rattle.guarantees.proofs.Sound.{effect_sound, firm_idle, firm_undo}
use Rattle.guarantees.proofs.Fine.{Fine, resized, open_fine, enterable, quiet_fine, added_fine}
use Rattle.guarantees.proofs.Keeps.{within}

-- a begin and each change left have records of their own, and so have their undoing and the end
pub records_twice : (n : ℕ) (s : Areas) (b : Book) → OpenInv n s b → Fine n s b → (t : ℕ) → t < txn_count → Runs b t → 2 * left (b.running t) b.lines + 2 ≤ records s
records_twice n s b i f t l run =
    let open_t = i.log.open_ones t l ∙ i.runs t run in
    let few = changes_few s.log t (undoes s.work n) (received_count s) open_t in
    let e = ap length (changes_left_law s.log t (undoes s.work n) (received_count s) open_t) in
    let d = words_count n s b i t l run in
    let p = share_held b t l in let q = share_runs b t run in
    let r = f.room i.word in omega arith

module _ (n : ℕ) (some : 1 ≤ n) (t : ℕ) (small : t < txn_count) where
  undone_fine : (s : Areas) (b : Book) (i : OpenInv n s b) (z : Sized s n) (run : Runs b t) (k : ℕ) (more : left (b.running t) b.lines ≡ suc k) (room : received_count s + 1 ≤ records s)
      → Fine n s b → Fine n (with_work (appended s (undoing (newest (b.running t) b.lines k more).0.entry)) (taken_back s.work n t (received_count s) (newest (b.running t) b.lines k more).0.entry))
      (Feeding.undoes b t)
  undone_fine s b i z run k more room f =
      let h = enterable n s b i f in
      let r = (newest (b.running t) b.lines k more).0.entry in
      let o = ranged n some s b i z t run small k more room in
      let twice = records_twice n s b i f t small run in
      let hold = held_undo b i.book t run small k more in
      let had = f.room i.word in
      added_fine n some s b (Feeding.undoes b t) (undoing r) _ (undone_kept n some s b i z t run small k more room) f h
      (taken_back_within s.work n (records s) (within n some s b i f h) t (received_count s) r small o.0 o.1 (omega arith))
      (effect_sound n some s.received z.received_len (area_small n some s b i z t run small k more room) h.ranged.received_sound (undoing r)
      (ok n some s b i z t run small k more room) (there_then n some s b i z t run small k more room))
      (firm_undo n b (Feeding.undoes b t) refl (longer n some s b i z t run small k more room) refl i.book.stable
      (alike_all n some s b i z t run small k more room) (alike_part n some s b i z t run small k more room) f.firm)
      (omega arith)

-- mark and back
module _ (n : ℕ) (some : 1 ≤ n) (s : Areas) (b : Book) (i : OpenInv n s b) (f : Fine n s b) (h : Open s n) (t m : ℕ) where
  pub marked_fine : MarkFacts s t m → OpenInv n (mark_set s n t m) (marks b t m) → Fine n (mark_set s n t m) (marks b t m)
  unfolding mark_set
  marked_fine k j =
      let run = i.active t (act_is s n (machine n s b) (machine_shows n s b) t k.txn ∙ k.active) in
      let twice = records_twice n s b i f t k.txn run in
      let e = words_count n s b i t k.txn run in
      quiet_fine n some s b (marks b t m) _ j f h
      (mark_within s.work n (records s) t m (length (changes_of s n t)) (within n some s b i f h) k.txn k.mark (omega arith) (omega arith)) refl refl refl refl

  pub back_fine : BackFacts s n t m → OpenInv n (back_to s n t m) (goes_back (length (since_mark s n t m)) b t) → Fine n (back_to s n t m) (goes_back (length (since_mark s n t m)) b t)
  unfolding back_to
  back_fine k j =
      let is = since_mark s n t m in
      let s₁ = went_back s.log is s n t in
      let b₁ = goes_back (length is) b t in
      let both = went_with n some t k.txn s.log (Fine n) (undone_fine n some t k.txn) is s b i h.sized (Marks.back_runs n some s b i h t m k) (Marks.records_is n some s b i h t m k)
      (let e = Marks.count n some s b i h t m k in omega arith) k.room f in
      let h₁ = enterable n s₁ b₁ both.0.kept both.1 in
      quiet_fine n some s₁ b₁ b₁ _ j both.1 h₁ (dropped_within s₁.work n (records s₁) t (within n some s₁ b₁ both.0.kept both.1 h₁) (order_of s₁.work n t m) mark_count k.txn (omega arith))
      refl refl refl refl

-- copies of t's pages
module _ (n : ℕ) (w copies received : List ℕ) (t : ℕ) (len : length received ≡ page_words * n) (sound : area_sound received n ≡ true) (copies_len : length copies ≡ page_words * n) (copies_sound : area_sound copies n ≡ true) where
  restored_sound : (k : ℕ) → k ≤ n → area_sound (restored w n t received copies k) n ≡ true
  unfolding restored
  restored_sound zero l = copies_sound
  restored_sound (suc p) l = by_bool (can_write w n t p)
      (λ e. rw e (copied_sound n received (restored w n t received copies p) p len (length_restored w n t received copies len copies_len p (omega arith)) (omega arith) sound (restored_sound p (omega arith))))
      (λ e. rw e (restored_sound p (omega arith)))

-- abort
module _ (n : ℕ) (some : 1 ≤ n) (s : Areas) (b : Book) (i : OpenInv n s b) (f : Fine n s b) (h : Open s n) (t : ℕ) (k : AbortFacts s n t) where
  abbrev is : List ℕ
  is = changes_of s n t

  abbrev s₁ : Areas
  s₁ = went_back s.log is s n t

  abbrev b₁ : Book
  b₁ = goes_back (length is) b t

  both : Went n t s b s₁ b₁ × Fine n s₁ b₁
  both = went_with n some t k.txn s.log (Fine n) (undone_fine n some t k.txn) is s b i h.sized (Abort.run n some s b i h t k) (Abort.records_all n some s b i h t k)
      (let e = words_count n s b i t k.txn (Abort.run n some s b i h t k) in omega arith) (let r = k.room in omega arith) f

  h₁ : Open s₁ n
  h₁ = enterable n s₁ b₁ both.0.kept both.1

  run₁ : Runs b₁ t
  run₁ = Abort.run₁ n some s b i h t k

  abbrev c : List ℕ
  c = restored s.work n t s₁.received s.copies n

  abbrev s' : Areas
  s' = with_work (with_copies (appended s₁ (aborted_of t)) c) (ended_tables s.work n t)

  ended_fine : Fine n s' (aborted_by b₁ t)
  unfolding appended effect
  ended_fine =
      let i₁ = both.0.kept in
      let hold = held_end b₁ i₁.book t run₁ k.txn (aborted_by b₁ t) (aborted_of t) refl refl in
      let room = both.1.room i₁.word in
      let count : received_count s' ≡ received_count s₁ + 1 = get_or-set_same s₁.counts 0 (received_count s₁ + 1) 0 (let e = h₁.sized.counts_len in omega arith) in
      let g : length s'.log ≡ length s₁.log = recorded_length s₁.log (received_count s₁) (aborted_of t) in
      let same : records s' ≡ records s = ap records_in (g ∙ both.0.size) in
      let w : Within (ended_tables s.work n t) n (records s) = ended_within s.work n (records s) some (within n some s b i f h) t in
      let len : length c ≡ page_words * n = length_restored s.work n t s₁.received s.copies h₁.sized.received_len h.sized.copies_len n (omega arith) in
      open_fine n some s' (aborted_by b₁ t) (Abort.aborted_inv n some s b i h t k)
      (resized n s₁ s' h₁.sized refl (len ∙ sym h₁.sized.copies_len) refl g (length-set s₁.counts 0 (received_count s₁ + 1)) (rw same w.size))
      both.1.stored (rw same w) h₁.ranged.received_sound
      (restored_sound n s.work s.copies s₁.received t h₁.sized.received_len h₁.ranged.received_sound h.sized.copies_len h.ranged.copies_sound n (omega arith))
      (firm_idle n b₁ (aborted_by b₁ t) (line (aborted_of t) (b₁.running t)) refl refl refl i₁.book.stable (abort_committed b₁ i₁.book t run₁) both.1.firm)
      (rw count (let e : records s' ≡ records s₁ = ap records_in g in omega arith))

  abbrev b' : Book
  b' = Feeding.ends (Feeding.adds (Feeding.with_lines b (undone_lines (b.running t) (left (b.running t) b.lines) b.lines)) t (aborted_of t)) t

  pub aborted_fine : Fine n (aborted s n t) b'
  aborted_fine = subst (λ (a : Areas). Fine n a b') (sym (Abort.areas_same n some s b i h t k)) (subst (λ (d : Book). Fine n s' d) (Abort.book_same n some s b i h t k) ended_fine)
