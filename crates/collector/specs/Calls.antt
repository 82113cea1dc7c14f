-- The calls of the collector's machine: the state after each where it is accepted; what an accepted call must have found stands with the
-- proofs, in Facts. Line numbers are given to the states, so that a user who counts the book's lines says which they are. This machine
-- serves the proof of demand 3; the claim of demand 3 itself never mentions it. Assumes nothing.
use Rattle.std.specs.Prelude.{ℕ, suc, Bool, false, not, cond, eqb, ltb}
use Rattle.collector.specs.Bits.{◌and◌, ◌or◌}
use Rattle.collector.specs.Objects.{Obj, Tag, blank, fresh, put, born_at, stamp, is_ref, points, page_of}
use Rattle.collector.specs.State.{white, black, is_white, greyed, Phase, idle, marking, sweeping, is_idle, is_marking}
use Rattle.collector.specs.State.{Locks, Tables, Pass, St, add, remove, drop, some, carried, mix, at_rest}

abbrev pub knowing : Tables → (ℕ → ℕ → Bool) → Tables
knowing b kn = record { kn = kn; prt = b.prt; cot = b.cot; cot_f = b.cot_f; dirty = b.dirty }

-- t knows the root only; the book has lines up to n
abbrev pub begun : St → ℕ → ℕ → St
begun s t n = record {
  count = s.count;
  pages = s.pages;
  tags = record { cmt_tag = s.tags.cmt_tag; rec_tag = s.tags.rec_tag; now = n };
  locks = record { act = λ u. s.locks.act u or eqb u t; rd = s.locks.rd; wr = s.locks.wr };
  tables = knowing s.tables (λ u x. cond (eqb u t) (eqb x 1) (s.tables.kn u x));
  pass = s.pass;
}

abbrev pub locked : St → (ℕ → ℕ → Bool) → (ℕ → ℕ → Bool) → St
locked s rd wr = record {
  count = s.count;
  pages = s.pages;
  tags = s.tags;
  locks = record { act = s.locks.act; rd = rd; wr = wr };
  tables = s.tables;
  pass = s.pass;
}

-- the writer stays the writer
abbrev pub read_locked : St → ℕ → ℕ → St
read_locked s t p = locked s (λ u q. s.locks.rd u q or (eqb u t and eqb q p and not (s.locks.wr u q))) s.locks.wr

-- a reader that becomes the writer is no reader any more
abbrev pub write_locked : St → ℕ → ℕ → St
write_locked s t p = locked s (remove s.locks.rd t p) (add s.locks.wr t p)

-- t comes to know the objects of q
abbrev pub learning : St → ℕ → (ℕ → Bool) → St
learning s t q = record {
  count = s.count;
  pages = s.pages;
  tags = s.tags;
  locks = s.locks;
  tables = knowing s.tables (λ u x. s.tables.kn u x or (eqb u t and q x));
  pass = s.pass;
}

-- t knows the references that it read
abbrev pub read_by : St → ℕ → ℕ → St
read_by s t o = learning s t (points (s.pages.rec o))

-- line m is to create o: the COT gains it
abbrev pub entered : St → ℕ → ℕ → ℕ → St
entered s t o m = record {
  count = s.count;
  pages = s.pages;
  tags = record { cmt_tag = s.tags.cmt_tag; rec_tag = s.tags.rec_tag; now = suc m };
  locks = s.locks;
  tables = record { kn = s.tables.kn; prt = s.tables.prt; cot = add s.tables.cot t o; cot_f = s.tables.cot_f; dirty = add s.tables.dirty t (page_of o) };
  pass = s.pass;
}

-- line m creates o
abbrev pub created : St → ℕ → ℕ → ℕ → St
created s t o m = record {
  count = s.count;
  pages = record { cmt = s.pages.cmt; rec = λ x. cond (eqb x o) fresh (s.pages.rec x); cop = s.pages.cop };
  tags = record { cmt_tag = s.tags.cmt_tag; rec_tag = λ x. cond (eqb x o) (born_at m) (s.tags.rec_tag x); now = suc m };
  locks = s.locks;
  tables = record { kn = add s.tables.kn t o; prt = s.tables.prt; cot = add s.tables.cot t o; cot_f = s.tables.cot_f; dirty = add s.tables.dirty t (page_of o) };
  pass = s.pass;
}

-- x is the reference that a write of v to word f of the object takes away
abbrev pub pruned : Obj → ℕ → ℕ → ℕ → Bool
pruned b f v x = is_ref b f and not (eqb x 0) and not (eqb x v) and eqb (b.word f) x

-- line m is to take the references of q away on page p: they enter the PRT, and turn grey while marking
abbrev pub cutting : St → ℕ → (ℕ → Bool) → ℕ → ℕ → St
cutting s t q p m = record {
  count = s.count;
  pages = s.pages;
  tags = record { cmt_tag = s.tags.cmt_tag; rec_tag = s.tags.rec_tag; now = suc m };
  locks = s.locks;
  tables = record {
    kn = s.tables.kn;
    prt = λ u x. s.tables.prt u x or (eqb u t and q x);
    cot = s.tables.cot;
    cot_f = s.tables.cot_f;
    dirty = add s.tables.dirty t p;
  };
  pass = record {
    phase = s.pass.phase;
    at = s.pass.at;
    steps = s.pass.steps;
    col = λ x. greyed (is_marking s.pass.phase and q x) (s.pass.col x);
  };
}

-- line m writes v to word f of o; the reference taken away enters the PRT, and turns grey while marking
abbrev pub written : St → ℕ → ℕ → ℕ → ℕ → ℕ → St
written s t o f v m = let c = cutting s t (pruned (s.pages.rec o) f v) (page_of o) m in record {
  count = c.count;
  pages = record { cmt = s.pages.cmt; rec = λ x. cond (eqb x o) (put (s.pages.rec o) f v) (s.pages.rec x); cop = s.pages.cop };
  tags = record { cmt_tag = s.tags.cmt_tag; rec_tag = λ x. cond (eqb x o) (stamp (s.tags.rec_tag o) f m) (s.tags.rec_tag x); now = suc m };
  locks = c.locks;
  tables = c.tables;
  pass = c.pass;
}

-- the copy of page p takes the objects of d; then these pages are not flushed
abbrev pub copying : St → ℕ → (ℕ → Obj) → (ℕ → ℕ → Bool) → St
copying s p d dirty = record {
  count = s.count;
  pages = record { cmt = s.pages.cmt; rec = s.pages.rec; cop = mix (λ o. eqb (page_of o) p) d s.pages.cop };
  tags = s.tags;
  locks = s.locks;
  tables = record { kn = s.tables.kn; prt = s.tables.prt; cot = s.tables.cot; cot_f = s.tables.cot_f; dirty = dirty };
  pass = s.pass;
}

-- the copy of page p becomes the received page
abbrev pub flushed : St → ℕ → ℕ → St
flushed s t p = copying s p s.pages.rec (remove s.tables.dirty t p)

-- the book has lines up to n
abbrev pub dated : St → ℕ → St
dated s n = record {
  count = s.count;
  pages = s.pages;
  tags = record { cmt_tag = s.tags.cmt_tag; rec_tag = s.tags.rec_tag; now = n };
  locks = s.locks;
  tables = s.tables;
  pass = s.pass;
}

-- t writes the page of o
abbrev pub owns : St → ℕ → ℕ → Bool
owns s t o = s.locks.wr t (page_of o)

-- what the end of t leaves of locks and tables; COT entries are flagged while a pass runs
abbrev pub unlocked : Locks → ℕ → Locks
unlocked l t = record { act = λ u. not (eqb u t) and l.act u; rd = drop l.rd t; wr = drop l.wr t }

abbrev pub without : Tables → Phase → ℕ → Tables
without b ph t = record {
  kn = drop b.kn t;
  prt = drop b.prt t;
  cot = drop b.cot t;
  cot_f = λ x. b.cot_f x or (not (is_idle ph) and b.cot t x);
  dirty = drop b.dirty t;
}

-- t's pages are committed as received; the book has lines up to n
abbrev pub committed : St → ℕ → ℕ → St
committed s t n = record {
  count = s.count;
  pages = record { cmt = mix (owns s t) s.pages.rec s.pages.cmt; rec = s.pages.rec; cop = s.pages.cop };
  tags = record { cmt_tag = mix (owns s t) s.tags.rec_tag s.tags.cmt_tag; rec_tag = s.tags.rec_tag; now = n };
  locks = unlocked s.locks t;
  tables = without s.tables s.pass.phase t;
  pass = s.pass;
}

-- t's pages are received and copied as committed; the book has lines up to n, and the undoing is no longer counted
abbrev pub aborted : St → ℕ → ℕ → St
aborted s t n = record {
  count = s.count;
  pages = record { cmt = s.pages.cmt; rec = mix (owns s t) s.pages.cmt s.pages.rec; cop = mix (owns s t) s.pages.cmt s.pages.cop };
  tags = record { cmt_tag = s.tags.cmt_tag; rec_tag = mix (owns s t) s.tags.cmt_tag s.tags.rec_tag; now = n };
  locks = unlocked s.locks t;
  tables = without s.tables s.pass.phase t;
  pass = s.pass;
}

-- flagged entries go; the root and every PRT target turn grey
abbrev pub started : St → St
started s = record {
  count = s.count;
  pages = s.pages;
  tags = s.tags;
  locks = s.locks;
  tables = record { kn = s.tables.kn; prt = s.tables.prt; cot = s.tables.cot; cot_f = λ x. false; dirty = s.tables.dirty };
  pass = record { phase = marking; at = 0; steps = 0; col = λ x. greyed (eqb x 1 or some s.tables.prt x) white };
}

abbrev pub passing : St → Pass → St
passing s a = record { count = s.count; pages = s.pages; tags = s.tags; locks = s.locks; tables = s.tables; pass = a }

-- the grey object o is scanned in the copies and turns black
abbrev pub marked : St → ℕ → St
marked s o = passing s (record {
  phase = marking;
  at = s.pass.at;
  steps = suc s.pass.steps;
  col = λ x. cond (eqb x o) black (greyed (points (s.pages.cop o) x) (s.pass.col x));
})

-- no object is grey: the next step sweeps page 0
abbrev pub turned : St → St
turned s = passing s (record { phase = sweeping; at = 0; steps = suc s.pass.steps; col = s.pass.col })

-- the pass after the sweep of a page: after the last page it is over
abbrev pub onward : ℕ → Pass → Pass
onward p a = let more : Bool = ltb (suc a.at) p in
    record { phase = cond more sweeping idle; at = cond more (suc a.at) 0; steps = cond more (suc a.steps) 0; col = a.col }

abbrev pub advanced : St → St
advanced s = passing s (onward s.count s.pass)

-- the objects that a sweep of the page frees
abbrev pub dead : St → ℕ → Bool
dead s x = eqb (page_of x) s.pass.at and (s.pages.cop x).occ and is_white (s.pass.col x) and not (carried s.tables.cot s.tables.cot_f x)

-- line m frees them in all areas
abbrev pub swept : St → ℕ → St
swept s m = record {
  count = s.count;
  pages = record { cmt = mix (dead s) (λ o. blank) s.pages.cmt; rec = mix (dead s) (λ o. blank) s.pages.rec; cop = mix (dead s) (λ o. blank) s.pages.cop };
  tags = record { cmt_tag = mix (dead s) (λ o. born_at m) s.tags.cmt_tag; rec_tag = mix (dead s) (λ o. born_at m) s.tags.rec_tag; now = suc m };
  locks = s.locks;
  tables = s.tables;
  pass = onward s.count s.pass;
}

-- a reopening: objects m with tags a in all areas, lines up to n, and nobody at work
abbrev pub reset : St → (ℕ → Obj) → (ℕ → Tag) → ℕ → St
reset s m a n = at_rest s.count m a n
