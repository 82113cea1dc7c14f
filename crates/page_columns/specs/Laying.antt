-- A table laid out row by row: the first h words of a list stay, then come rows of m words, and behind those that are written the list is as
-- it was. Assumes nothing.
use Prim.Native.Nat.{ℕ, zero, suc, ◌+◌, ◌*◌, ◌<◌, ◌≤◌}
use Rattle.std.specs.Prelude.{◌≡◌, refl}
use Rattle.std.proofs.Math.Path.{sym, ap}
use Rattle.std.proofs.Common.{◌∙◌, take-suc, take_at, drop_at, le_of_eq, add-one, arith}
use mathlib.Core.List.{List, [], ◌∷◌, ◌++◌, append_assoc, append-nil}
use Rattle.std.proofs.Math.ListN.{length, get_or, take, drop, take-append-drop, drop_of_length-le}
use Rattle.std.proofs.Math.Seq.{paste, take_all, drop-drop}
use Rattle.std.proofs.Math.Nat.{mul-zero, mul-suc}
use Rattle.words.specs.Spans.{copied}
use Rattle.pages.specs.Geometry.{page_words, head_words, slot_count, slot_words, slot_at}
use Rattle.pages.specs.Table.{with_rows}
use Rattle.columns.specs.Columns.{joined, laid_out}
use Rattle.column_laws.specs.Grids.{Full, first_length, full_first_rows, length_laid}

-- list a, over which the first k rows of table t are laid
unfoldable pub laid_to : ℕ → ℕ → List (List ℕ) → List ℕ → ℕ → List ℕ
laid_to h m t a k = (take h a ++ joined (take k t)) ++ drop (h + m * k) a

joined_more : (t : List (List ℕ)) (r : List ℕ) → joined (t ++ (r ∷ [])) ≡ joined t ++ r
unfolding joined
joined_more [] r = append-nil r
joined_more (x ∷ t) r = ap (λ (l : List ℕ). x ++ l) (joined_more t r) ∙ sym (append_assoc x (joined t) r)

module _ (h n m : ℕ) (t : List (List ℕ)) (f : Full n m t) where
  joined_next : (k : ℕ) → k < n → joined (take (suc k) t) ≡ joined (take k t) ++ get_or t k []
  joined_next k hk = let e = f.rows in ap joined (take-suc t k [] (omega arith)) ∙ joined_more (take k t) (get_or t k [])

  pub laid_none : (a : List ℕ) → a ≡ laid_to h m t a 0
  unfolding laid_to joined
  laid_none a = let e : h + m * 0 ≡ h = (let z = mul-zero m in omega arith) in
      sym (ap (λ (l : List ℕ). l ++ drop (h + m * 0) a) (append-nil (take h a))
      ∙ ap (λ (i : ℕ). take h a ++ drop i a) e
      ∙ take-append-drop h a)

  -- one row more
  pub laid_next : (a x : List ℕ) (k b : ℕ) → x ≡ laid_to h m t a k → b ≡ h + m * k → k < n → h ≤ length a
      → paste x b (get_or t k []) m ≡ laid_to h m t a (k + 1)
  unfolding laid_to
  laid_next a x k b e q hk room =
      let r : List ℕ = get_or t k [] in
      let p : List ℕ = take h a ++ joined (take k t) in
      let rest : List ℕ = drop (h + m * k) a in
      let lp : length p ≡ h + m * k = length_laid h k m a (take k t) room (full_first_rows n m k t f (omega arith)) in
      let further : h + m * k + m ≡ h + m * (k + 1) = (let z = mul-suc m k in rw (add-one k) (omega arith)) in
      let behind : drop (h + m * k + m) (p ++ rest) ≡ drop (h + m * (k + 1)) a =
      sym (drop-drop m (h + m * k) (p ++ rest))
      ∙ ap (drop m) (drop_at p rest (h + m * k) lp)
      ∙ drop-drop m (h + m * k) a
      ∙ ap (λ (i : ℕ). drop i a) further in
      let front : p ++ r ≡ take h a ++ joined (take (k + 1) t) =
      append_assoc (take h a) (joined (take k t)) r
      ∙ ap (λ (l : List ℕ). take h a ++ l) (sym (joined_next k hk) ∙ ap (λ (i : ℕ). joined (take i t)) (sym (add-one k))) in
      ap (λ (l : List ℕ). paste l b r m) e ∙ ap (λ (i : ℕ). paste (p ++ rest) i r m) q
      ∙ rw (take_at p rest (h + m * k) lp, take_all m r (le_of_eq (f.words k hk)), behind) (ap (λ (l : List ℕ). l ++ drop (h + m * (k + 1)) a) front)

  -- all rows, over a list that has no words behind them
  pub laid_all : (a x : List ℕ) (k : ℕ) → x ≡ laid_to h m t a k → k ≡ n → length a ≡ h + m * n → x ≡ take h a ++ joined t
  unfolding laid_to
  laid_all a x k e q l = e ∙ rw (q, take_all n t (le_of_eq f.rows), drop_of_length-le a {i = h + m * n} (omega arith)) (append-nil (take h a ++ joined t))

-- a page's rows written after its head
rows_upto : (a : List ℕ) (t : List (List ℕ)) → length a ≡ page_words → Full slot_count slot_words t → (k : ℕ) → k ≤ slot_count
    → with_rows a 0 t k ≡ laid_to head_words slot_words t a k
unfolding with_rows
rows_upto a t l f zero h = laid_none head_words slot_count slot_words t f a
rows_upto a t l f (suc k) h =
    laid_next head_words slot_count slot_words t f a (with_rows a 0 t k) k (slot_at 0 k 0) (rows_upto a t l f k (omega arith)) (omega arith) (omega arith) (omega arith)
    ∙ ap (laid_to head_words slot_words t a) (add-one k)

pub rows_laid : (a : List ℕ) (t : List (List ℕ)) → length a ≡ page_words → Full slot_count slot_words t → with_rows a 0 t slot_count ≡ laid_out a t
rows_laid a t l f = laid_all head_words slot_count slot_words t f a (with_rows a 0 t slot_count) slot_count (rows_upto a t l f slot_count (omega arith)) refl l

-- the head of a page written over another one's
pub head_laid_out : (page out : List ℕ) (t : List (List ℕ)) → head_words ≤ length page → laid_out (copied page out 0 head_words) t ≡ laid_out page t
unfolding copied
head_laid_out page out t room = ap (λ (l : List ℕ). l ++ joined t)
    (take_at (take head_words page) (drop head_words out) head_words (first_length head_words page room))
