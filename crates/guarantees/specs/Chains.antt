-- Document 02, L1: what an accepted chain shows. Of every store, whatever its words are; and, where no transaction runs, of the committed
-- state by the book. Assumes nothing.
use Rattle.std.specs.Prelude.{ℕ, ◌-◌, ◌≡◌, List, ◌∷◌, ◌++◌, length, replicate, Ok}
use Rattle.pages.specs.Geometry.{root}
use Rattle.reach.specs.Reaching.{Reached}
use Rattle.reach.specs.Chains.{Chain, Least}
use Rattle.areas.specs.Areas.{Areas}
use Rattle.calls.specs.Calls.{look, perform}
use Rattle.calls.specs.Chains.{chain_words, chain_look, call_chain, chain_after}
use Rattle.book.specs.Books.{committed_pages}
use Rattle.book.specs.Demand.{Point}
use Rattle.guarantees.specs.Points.{Always}

-- the call is one of those that demand 3's lists are made of: it only looks
abbrev pub ChainIsACall : Type 0
ChainIsACall = (s : Areas) (buffer : List ℕ) (o : ℕ) → perform s (look (chain_look buffer o)) ≡ call_chain s buffer o

-- asked for the chain of object o, store s answers 0, with value v
abbrev pub Tells : Areas → List ℕ → ℕ → ℕ → Type 0
Tells s buffer o v = (call_chain s buffer o).answer ≡ Ok v

-- the buffer has a chain in page area a that is ahead of every other one to o, then zeros; v is the number of its objects
pub record ShowsLeast (a : List ℕ) (s : Areas) (buffer : List ℕ) (o v : ℕ) : Type 0 where
  pub chain : List ℕ
  pub least : Least a o chain
  pub size : v ≡ length chain
  pub shown : chain_after s buffer o ≡ chain ++ replicate (chain_words - v) 0

-- no chain leads to o in page area a, and the buffer is zeros
pub record ShowsNone (a : List ℕ) (s : Areas) (buffer : List ℕ) (o : ℕ) : Type 0 where
  pub none : (c : List ℕ) → Chain a o c → ⊥
  pub shown : chain_after s buffer o ≡ replicate chain_words 0

-- 'show a chain of references in the page copies from the root to it, with the fewest links, or none'
pub record ShowsIn (a : List ℕ) (s : Areas) : Type 0 where
  pub some : (buffer : List ℕ) (o v : ℕ) → Tells s buffer o v → (v ≡ 0 → ⊥) → ShowsLeast a s buffer o v
  pub none : (buffer : List ℕ) (o v : ℕ) → Tells s buffer o v → v ≡ 0 → ShowsNone a s buffer o

abbrev pub ChainShown : Type 0
ChainShown = (s : Areas) → ShowsIn s.copies s

-- the value is not 0 exactly where the root reaches the object in the copies
pub record ToldReached (s : Areas) (o v : ℕ) : Type 0 where
  pub some : Reached s.copies o → v ≡ 0 → ⊥
  pub reached : (v ≡ 0 → ⊥) → Reached s.copies o

abbrev pub ChainReached : Type 0
ChainReached = (s : Areas) (buffer : List ℕ) (o v : ℕ) → Tells s buffer o v → ToldReached s o v

-- 'The root's chain is the root.'
abbrev pub ChainOfRoot : Type 0
ChainOfRoot = (s : Areas) (buffer : List ℕ) (v : ℕ) → Tells s buffer root v → (v ≡ 1) × (chain_after s buffer root ≡ root ∷ replicate (chain_words - 1) 0)

-- no transaction runs, by the book
abbrev pub Quiet : Point → Type 0
Quiet q = (t : ℕ) → q.book.running t ≡ 0

-- where none runs, the chain is one of the committed state
abbrev pub CommittedChain : Point → Type 0
CommittedChain q = Quiet q → ShowsIn (committed_pages q.book) q.store

abbrev pub AlwaysCommittedChain : Type 0
AlwaysCommittedChain = Always CommittedChain
