-- Document 02, L1: 'Given an object, show a chain of references in the page copies from the root to it, with the fewest links, or none.'
-- n is the number of pages. Assumes nothing.
use Rattle.std.specs.Prelude.{ℕ, ◌-◌, ◌≡◌, refl, true, List, [], ◌∷◌, ◌++◌, length, replicate, eqb}
use Rattle.pages.specs.Geometry.{max_pages, object_count, is_object}
use Rattle.pages.specs.Objects.{occupied}
use Rattle.reach.specs.Search.{chain_in}
use Rattle.areas.specs.declared.Refusal.TheVariants.{OutOfRange, Free}
use Rattle.areas.specs.Answers.{Test, need, spares}
use Rattle.areas.specs.Areas.{Areas, Out}
use Rattle.areas.specs.Entry.{pages}
use Rattle.calls.specs.Looks.{Look, call_look}
use Rattle.calls.specs.Objects.{if_accepted}

-- 'Only the chain's buffer changes; its length must be 4096 words': the objects of the largest store
abbrev pub chain_words : ℕ
chain_words = object_count max_pages

-- 'Errors: 15, the slot is free in the copies, after 4.'
unfoldable pub chain_tests : Areas → ℕ → ℕ → List Test
chain_tests s n o = need 3 OutOfRange (is_object n o) ∷ need 15 Free (occupied s.copies o) ∷ []

-- refusal 1 is not among them
pub chain_spares : (s : Areas) (n o : ℕ) → spares 1 (chain_tests s n o) ≡ true
unfolding chain_tests spares
chain_spares s n o = refl

-- 'The value is the chain's number of objects, or 0.'
unfoldable pub chain_look : List ℕ → ℕ → Look
chain_look buffer o = record {
  own = eqb (length buffer) chain_words;
  tests = λ s n. chain_tests s n o;
  value = λ s n. length (chain_in s.copies n o);
  spares_1 = λ s n. chain_spares s n o;
}

-- it only looks at the store
unfoldable pub call_chain : Areas → List ℕ → ℕ → Out
call_chain s buffer o = call_look s (chain_look buffer o)

-- a chain in its buffer: 'words after the chain become 0'
abbrev pub shown : List ℕ → List ℕ
shown c = c ++ replicate (chain_words - length c) 0

-- a refused call keeps the buffer
unfoldable pub chain_after : Areas → List ℕ → ℕ → List ℕ
chain_after s buffer o = if_accepted (call_chain s buffer o).answer (shown (chain_in s.copies (pages s) o)) buffer
