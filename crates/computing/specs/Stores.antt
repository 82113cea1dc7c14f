-- What the tables of examples share: stores that are the same, calls that are accepted and a call that is refused. Assumes nothing.
use Rattle.std.specs.Prelude.{ℕ, ◌*◌, Bool, true, false, ◌&&◌, List, [], ◌∷◌, eqb}
use Rattle.areas.specs.Answers.{answer_of, value_of, accepted}
use Rattle.words.specs.Spans.{fill}
use Rattle.areas.specs.Areas.{Areas, with_work}
use Rattle.areas.specs.Layout.{client_count, right_at, writing}
use Rattle.calls.specs.Formatting.{formatted}
use Rattle.calls.specs.Calls.{Call, perform}

-- two lists of words are the same; two stores are
unfoldable pub same_words : List ℕ → List ℕ → Bool
same_words [] [] = true
same_words [] (y ∷ ys) = false
same_words (x ∷ xs) [] = false
same_words (x ∷ xs) (y ∷ ys) = let on = same_words xs ys in eqb x y && on

-- all six areas agree, word by word
unfoldable pub same_areas : Areas → Areas → Bool
same_areas a b =
    same_words a.stored b.stored && same_words a.copies b.copies && same_words a.received b.received
    && same_words a.log b.log && same_words a.counts b.counts && same_words a.work b.work

-- a formatted store that gives every client all rights (document 02, L9)
abbrev pub allowed : ℕ → ℕ → Areas
allowed n l = let s = formatted n l in with_work s (fill (λ j. writing) s.work (right_at n 0 0) (client_count * n))

-- the call is refused with this number and this value, and every word stays
unfoldable pub refused_by : ℕ → ℕ → Areas → Call → Bool
refused_by x v s c = let o = perform s c in eqb (answer_of o.answer) x && eqb (value_of o.answer) v && same_areas o.after s

-- these calls are accepted, and then the test holds of the store
unfoldable pub after : List Call → (Areas → Bool) → Areas → Bool
after [] f s = f s
after (b ∷ bs) f s = let o = perform s b in let on = after bs f o.after in accepted o.answer && on
