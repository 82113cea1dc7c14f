use Prim.Native.Nat.{◌-◌}
use mathlib.Core.Path.{◌≡◌, sym, ◌∙◌}
use native.Mathlib.Omega.{arith}
use Rattle.pages.specs.Geometry.{max_pages}
use Rattle.record_laws.specs.RecordLaws.{record_facts, named_from, named_below}
use Rattle.record_ops.specs.Naming.{named_start, named_some, named_none}
use Rattle.record_ops.proofs.naming.last_naming.Goals as goal

pub loop-i-init : goal.loop-i-init
loop-i-init c = (omega arith, omega arith, named_start _ _)

pub record_at-r-requires : goal.record_at-r-requires
record_at-r-requires c = omega arith

pub page_named-p-requires : goal.page_named-p-requires
page_named-p-requires c =
    named_from max_pages _ (record_facts max_pages _ _ _ _ c.record_at-r.ensures c.requires.3 c.loop-i-test.true)
    (sym c.names_page.ensures ∙ c.if-names_page.true)

pub bounds-last-p : goal.bounds-last-p
bounds-last-p c =
    let f = record_facts max_pages _ _ _ _ c.record_at-r.ensures c.requires.3 c.loop-i-test.true in
    let h = named_below max_pages _ f (sym c.names_page.ensures ∙ c.if-names_page.true) in
    let e = c.page_named-p.ensures in
    omega arith

pub offset_bounds-last-p : goal.offset_bounds-last-p
offset_bounds-last-p c = let h = bounds-last-p c in omega arith

pub loop-i-preserved : goal.loop-i-preserved
loop-i-preserved c =
    let h = c.loop-i.invariant in
    let f = c.record_at-r.ensures in
    let b = sym c.names_page.ensures in (
      omega arith,
      omega arith,
      (elim c.if-names_page.branch [
        | goal.then-names_page w ↦ rw w.last-is (named_some _ _ _ _ _ h.0 f h.2 _ (b ∙ w.if-names_page.true) w.page_named-p.ensures)
        | goal.else-names_page w ↦ rw w.last-is (named_none _ _ _ _ _ h.0 f h.2 (b ∙ w.if-names_page.false))
      ]),
    )

pub returns : goal.returns
returns c = let e : c.loop-i.i ≡ c.args.c = omega arith in rw e at c.loop-i.invariant.2
