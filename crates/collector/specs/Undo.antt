-- What a running transaction can take back: by each of its changes, newest first, the object as it was before. This machine serves the
-- proof of demand 3; the claim of demand 3 itself never mentions it. Assumes nothing.
use Rattle.std.specs.Prelude.{ℕ, Bool, not, cond, List, ◌∷◌, eqb}
use Rattle.collector.specs.Bits.{◌and◌, ◌or◌}
use Rattle.collector.specs.Objects.{Obj, Tag, page_of}
use Rattle.collector.specs.State.{St, add}

-- object o was as it is here before the change
pub record Item : Type 0 where
  pub o : ℕ
  pub was : Obj
  pub tag : Tag

-- by transaction
abbrev pub Stacks : Type 0
Stacks = ℕ → List Item

-- other items of t
abbrev pub with : Stacks → ℕ → List Item → Stacks
with us t r u = cond (eqb u t) r (us u)

abbrev pub push : Stacks → ℕ → Item → Stacks
push us t i = with us t (i ∷ us t)

-- t does not know the object any more, if the change created it
abbrev pub forgotten : (ℕ → ℕ → Bool) → ℕ → Item → ℕ → ℕ → Bool
forgotten kn t i u x = kn u x and (i.was.occ or not (eqb u t and eqb x i.o))

-- t's newest change is taken back: its page needs flushing again
abbrev pub popped : St → ℕ → Item → St
popped s t i = record {
  count = s.count;
  pages = record { cmt = s.pages.cmt; rec = λ x. cond (eqb x i.o) i.was (s.pages.rec x); cop = s.pages.cop };
  tags = record { cmt_tag = s.tags.cmt_tag; rec_tag = λ x. cond (eqb x i.o) i.tag (s.tags.rec_tag x); now = s.tags.now };
  locks = s.locks;
  tables = record {
    kn = forgotten s.tables.kn t i;
    prt = s.tables.prt;
    cot = s.tables.cot;
    cot_f = s.tables.cot_f;
    dirty = add s.tables.dirty t (page_of i.o);
  };
  pass = s.pass;
}

-- object o as it is received
abbrev pub item_of : St → ℕ → Item
item_of s o = record { o = o; was = s.pages.rec o; tag = s.tags.rec_tag o }
