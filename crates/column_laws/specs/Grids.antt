-- Rows of one length, one after the other: their entries, where their words stand, and lists that agree at every row and place. Assumes
-- nothing.
use Rattle.std.specs.Prelude.{ℕ, zero, suc, ◌+◌, ◌*◌, ◌-◌, ◌/◌, ◌%◌, ◌<◌, ◌≤◌, ◌≡◌, get_or, take}
use Rattle.std.proofs.Common.{sym, subst, ◌∙◌, length-append, length-take, ext_get_or, get_or-append-add, get_or-take, mul-zero, mul-suc, mod-lt, div-add-mod', div-lt_iff_lt-mul, mul_comm, arith}
use Rattle.std.proofs.Math.Path.{ap}
use mathlib.Core.List.{List, [], ◌∷◌, ◌++◌}
use Rattle.std.proofs.Math.ListN.{length, get_or-append}
use Rattle.std.proofs.Math.Decide.{ℕ_discrete}
use Rattle.pages.specs.Geometry.{slot_count, slot_words}
use Rattle.pages.specs.Table.{tabulate}
use Rattle.page_laws.specs.Tables.{length_tab, tab_at}
use Rattle.columns.specs.Columns.{grid, joined, columns_of, slots_in}

-- a table of n rows of m words
pub record Full (n m : ℕ) (t : List (List ℕ)) : Type 0 where
  pub rows : length t ≡ n
  pub words : (i : ℕ) → i < n → length (get_or t i []) ≡ m

module _ (f : ℕ → ℕ → ℕ) (n m : ℕ) where
  grid_row : (i : ℕ) → i < n → get_or (grid f n m) i [] ≡ tabulate (f i) m
  unfolding grid
  grid_row i h = tab_at (λ i. tabulate (f i) m) n i [] h

  grid_full : Full n m (grid f n m)
  unfolding grid
  grid_full = record {
    rows = length_tab (λ i. tabulate (f i) m) n;
    words = λ i h. ap length (grid_row i h) ∙ length_tab (f i) m;
  }

  pub grid_at : (i j : ℕ) → i < n → j < m → get_or (get_or (grid f n m) i []) j 0 ≡ f i j
  grid_at i j hi hj = ap (λ (r : List ℕ). get_or r j 0) (grid_row i hi) ∙ tab_at (f i) m j 0 hj

-- the tables of a page by columns
pub columns_full : (t : List (List ℕ)) → Full slot_words slot_count (columns_of t)
unfolding columns_of
columns_full t = grid_full _ slot_words slot_count

pub columns_at : (t : List (List ℕ)) (w s : ℕ) → w < slot_words → s < slot_count → get_or (get_or (columns_of t) w []) s 0 ≡ get_or (get_or t s []) w 0
unfolding columns_of
columns_at t w s hw hs = grid_at _ slot_words slot_count w s hw hs

pub slots_full : (p : List ℕ) → Full slot_count slot_words (slots_in p)
unfolding slots_in
slots_full p = grid_full _ slot_count slot_words

-- the first row and the others
full_first : (n m : ℕ) (r : List ℕ) (t : List (List ℕ)) → Full (suc n) m (r ∷ t) → length r ≡ m
full_first n m r t f = f.words 0 (omega arith)

full_rest : (n m : ℕ) (r : List ℕ) (t : List (List ℕ)) → Full (suc n) m (r ∷ t) → Full n m t
full_rest n m r t f = record { rows = (let e = f.rows in omega arith); words = λ i h. f.words (suc i) (omega arith) }

length_joined : (n m : ℕ) (t : List (List ℕ)) → Full n m t → length (joined t) ≡ m * n
unfolding joined
length_joined zero m [] f = sym (mul-zero m)
length_joined zero m (r ∷ t) f = absurd (let e = f.rows in omega arith)
length_joined (suc n) m [] f = absurd (let e = f.rows in omega arith)
length_joined (suc n) m (r ∷ t) f = rw (length-append, mul-suc, length_joined n m t (full_rest n m r t f), full_first n m r t f) (omega arith)

-- place j of row i
joined_at : (n m : ℕ) (t : List (List ℕ)) → Full n m t → (i j : ℕ) → i < n → j < m → get_or (joined t) (m * i + j) 0 ≡ get_or (get_or t i []) j 0
unfolding joined
joined_at zero m t f i j hi hj = absurd (omega arith)
joined_at (suc n) m [] f i j hi hj = absurd (let e = f.rows in omega arith)
joined_at (suc n) m (r ∷ t) f zero j hi hj = let e = full_first n m r t f in
    ap (λ (k : ℕ). get_or (r ++ joined t) (k + j) 0) (mul-zero m) ∙ ap (λ (k : ℕ). get_or (r ++ joined t) k 0) (omega arith) ∙ get_or-append r (joined t) 0 j (omega arith)
joined_at (suc n) m (r ∷ t) f (suc i) j hi hj = let e = full_first n m r t f in
    ap (λ (k : ℕ). get_or (r ++ joined t) k 0) (let z = mul-suc m i in omega arith)
    ∙ get_or-append-add r (joined t) (m * i + j) 0
    ∙ joined_at n m t (full_rest n m r t f) i j (omega arith) hj

-- the first words of a list, and the first rows of a table
pub first_length : {A : Type 0} (k : ℕ) (l : List A) → k ≤ length l → length (take k l) ≡ k
first_length k l room = length-take k l ∙ omega arith

pub full_first_rows : (n m k : ℕ) (t : List (List ℕ)) → Full n m t → k ≤ n → Full k m (take k t)
full_first_rows n m k t f h = record {
  rows = first_length k t (let e = f.rows in omega arith);
  words = λ i hi. ap length (get_or-take k t i [] hi) ∙ f.words i (omega arith);
}

-- the first h words of a list, then the rows of a table
module _ (h n m : ℕ) (p : List ℕ) (t : List (List ℕ)) (room : h ≤ length p) (f : Full n m t) where
  pub length_laid : length (take h p ++ joined t) ≡ h + m * n
  length_laid = rw (length-append, first_length h p room, length_joined n m t f)

  pub head_laid : (i : ℕ) → i < h → get_or (take h p ++ joined t) i 0 ≡ get_or p i 0
  head_laid i hi = let e = first_length h p room in get_or-append (take h p) (joined t) 0 i (omega arith) ∙ get_or-take h p i 0 hi

  pub word_laid : (i j : ℕ) → i < n → j < m → get_or (take h p ++ joined t) (h + m * i + j) 0 ≡ get_or (get_or t i []) j 0
  word_laid i j hi hj = let e = first_length h p room in
      ap (λ (k : ℕ). get_or (take h p ++ joined t) k 0) (omega arith)
      ∙ get_or-append-add (take h p) (joined t) (m * i + j) 0
      ∙ joined_at n m t f i j hi hj

-- two lists of h words and n rows of m words, which agree at each of the first and at each place of each row
pub same_grid : (h n m : ℕ) (a b : List ℕ) → 0 < m → length a ≡ h + m * n → length b ≡ h + m * n
    → ((i : ℕ) → i < h → get_or a i 0 ≡ get_or b i 0)
    → ((i j : ℕ) → i < n → j < m → get_or a (h + m * i + j) 0 ≡ get_or b (h + m * i + j) 0) → a ≡ b
same_grid h n m a b hm la lb first rest = ext_get_or 0 a b (la ∙ sym lb) (λ k hk.
    elim (ℕ_discrete (k - h + h) k) [
      | no q ↦ first k (omega arith)
      | yes q ↦
          let i : ℕ = (k - h) / m in
          let j : ℕ = (k - h) % m in
          let d : m * i + j ≡ k - h = ap (λ (x : ℕ). x + j) (mul_comm m i) ∙ div-add-mod' (k - h) m in
          let e : h + m * i + j ≡ k = omega arith in
          let hj : j < m = mod-lt (k - h) hm in
          let hi : i < n = (div-lt_iff_lt-mul {k = m} {x = k - h} {y = n} hm).1 (rw (mul_comm n m) (omega arith)) in
          subst (λ (x : ℕ). get_or a x 0 ≡ get_or b x 0) e (rest i j hi hj)
    ])
