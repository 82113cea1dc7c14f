-- The page that the bench's flush sends, word by word. Assumes nothing.
use Rattle.std.specs.Prelude.{ℕ, zero, suc, ◌+◌, ◌*◌, ◌<◌, ◌≡◌, refl, List, [], ◌∷◌, ◌++◌, length, get_or, set, take, drop, replicate}
use Rattle.std.proofs.Common.{sym, ap, ◌∙◌, length-append, length-take, ext_get_or, get_or-take, get_or-drop, zero-add, arith}
use Rattle.std.proofs.lemmas.List.{length-replicate, get_or-replicate}
use Rattle.pages.specs.Geometry.{page_words}
use Rattle.words.specs.Spans.{fill, fill_inside, length_fill}
use Rattle.page_laws.specs.Runs.{fill_turn}
use Rattle.areas.specs.Areas.{areas}
use Rattle.bench_run.specs.Bench.{page_sent}

-- word k of page p, 0 past the end
abbrev pub word_sent : List ℕ → ℕ → ℕ → ℕ
word_sent r p k = get_or r (page_words * p + k) 0

-- the first i words of the page, the others 0
abbrev pub sent_to : List ℕ → ℕ → ℕ → List ℕ
sent_to r p i = fill (word_sent r p) (replicate page_words 0) 0 i

pub length_sent : (r : List ℕ) (p i : ℕ) → length (sent_to r p i) ≡ page_words
length_sent r p i = length_fill (word_sent r p) (replicate page_words 0) 0 i ∙ length-replicate {A = ℕ} page_words 0

pub sent_next : (r : List ℕ) (p i : ℕ) (x : List ℕ) → x ≡ sent_to r p i → set x i (word_sent r p i) ≡ sent_to r p (i + 1)
sent_next r p i x h = ap (λ (j : ℕ). set x j (word_sent r p i)) (sym (zero-add i)) ∙ fill_turn (word_sent r p) (replicate page_words 0) 0 i x h

-- past the words of a list come zeros either way
padded : (l : List ℕ) (j : ℕ) → j < page_words → get_or (l ++ replicate page_words 0) j 0 ≡ get_or l j 0
padded [] j h = get_or-replicate page_words j 0 0 h
padded (x ∷ l) zero h = refl
padded (x ∷ l) (suc j) h = padded l j (omega arith)

pub sent_end : (r : List ℕ) (p : ℕ) → sent_to r p page_words ≡ page_sent (areas [] [] r [] [] []) p
unfolding page_sent
sent_end r p = ext_get_or 0 _ _
    (length_sent r p page_words ∙ sym (long (drop (page_words * p) r)))
    (λ j l. let m = length_sent r p page_words in
    let z = length-replicate {A = ℕ} page_words 0 in
    ap (λ (i : ℕ). get_or (sent_to r p page_words) i 0) (sym (zero-add j)) ∙ fill_inside (word_sent r p) (replicate page_words 0) 0 page_words j (omega arith) (omega arith)
    ∙ sym (get_or-take page_words (drop (page_words * p) r ++ replicate page_words 0) j 0 (omega arith) ∙ padded (drop (page_words * p) r) j (omega arith) ∙ get_or-drop (page_words * p) r j 0))
  where
    long : (l : List ℕ) → length (take page_words (l ++ replicate page_words 0)) ≡ page_words
    long l = let a = length-take page_words (l ++ replicate page_words 0) in let b = length-append l (replicate page_words 0) in let c = length-replicate {A = ℕ} page_words 0 in omega arith

pub sent_whole : (r : List ℕ) (p i : ℕ) (x : List ℕ) → x ≡ sent_to r p i → i ≡ page_words → x ≡ page_sent (areas [] [] r [] [] []) p
sent_whole r p i x h e = h ∙ ap (sent_to r p) e ∙ sent_end r p
