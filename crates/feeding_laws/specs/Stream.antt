-- Bytes fed one by one give the commands of the input's lines.
use Rattle.std.specs.Prelude.{ℕ, suc, ◌+◌, ◌<◌, ◌≤◌, ◌≡◌, refl, Bool, true, false, ◌&&◌, cond as if, Option, Some, ltb, leb, eqb, length, set}
use Rattle.std.proofs.Math.Path.{sym, ap, subst⁻¹}
use Rattle.std.proofs.Common.{◌∙◌, add-one, arith, length-append, length-set, take-suc-set, lt-ltb, le-ltb, ltb-true, ltb-false, leb-true, leb-false, eqb-true, ne_eqb}
use mathlib.Core.List.{List, [], ◌∷◌, ◌++◌, map, append-nil}
use Rattle.std.proofs.Math.ListN.{take}
use Rattle.std.proofs.lemmas.Bool.{eqb-false}
use Rattle.texts.specs.Text.{cr, lf}
use Rattle.texts.specs.Lines.{onto, lines_of}
use Rattle.bench_commands.specs.Commands.{command_of}
use Rattle.bench_feeding.specs.Reading.{line_bytes, more, no_line, pushed, settled, held_command, fed}
use Rattle.bench_names.specs.declared.Command.{Command}
use Rattle.bench_feeding.specs.declared.Line.{Line}
use Rattle.bench_feeding.specs.declared.Fed.{Fed}
use Rattle.bench_feeding.specs.Steps.{if_t, if_f, with_cr, going, settled_cr, settled_not, fed_end, fed_cr, fed_byte, finished_none, finished_some}
use Rattle.feeding_laws.specs.Fed.{Stands, and_then, commands_from}
use Rattle.feeding_laws.specs.Long.{long_no_call}

-- the two ways of `pushed`
abbrev stored : Line → ℕ → Line
stored l b = record { bytes = set l.bytes l.count b; count = l.count + 1; cr = false }

abbrev over : Line → Line
over l = record { bytes = l.bytes; count = more; cr = false }

module _ (l : Line) (b : ℕ) where
  pushed_stored : l.count < line_bytes → pushed l b ≡ stored l b
  unfolding pushed
  pushed_stored h = if_t _ _ _ (lt-ltb l.count line_bytes h)

  pushed_over : line_bytes ≤ l.count → pushed l b ≡ over l
  unfolding pushed
  pushed_over h = if_f _ _ _ (le-ltb l.count line_bytes h)

pushed_no_cr_by : (t : Bool) (l : Line) (b : ℕ) → (if t (stored l b) (over l)).cr ≡ false
pushed_no_cr_by true l b = refl
pushed_no_cr_by false l b = refl

pushed_no_cr : (l : Line) (b : ℕ) → (pushed l b).cr ≡ false
unfolding pushed
pushed_no_cr l b = pushed_no_cr_by (ltb l.count line_bytes) l b

stands_none : Stands no_line []
unfolding no_line
stands_none = record { room = refl; short = λ h. refl; kept = λ h. refl; long = λ h. absurd (omega arith) }

length_snoc : (s : List ℕ) (b : ℕ) → length (s ++ (b ∷ [])) ≡ suc (length s)
length_snoc s b = length-append s (b ∷ []) ∙ add-one (length s)

module _ (l : Line) (seen : List ℕ) (st : Stands l seen) where
  stands_cr : Stands (with_cr l) seen
  stands_cr = record { room = st.room; short = st.short; kept = st.kept; long = st.long }

  stands_stored : (b : ℕ) → length seen < line_bytes → Stands (stored l b) (seen ++ (b ∷ []))
  stands_stored b h =
      let n : l.count ≡ length seen = st.short (omega arith) in
      let m = length_snoc seen b in
      record {
        room = length-set l.bytes l.count b ∙ st.room;
        short = λ k. omega arith;
        kept = λ k.
            ap (λ (j : ℕ). take j (set l.bytes l.count b)) (m ∙ ap suc (sym n))
            ∙ take-suc-set l.bytes l.count b (omega (arith, st.room))
            ∙ ap (λ (s : List ℕ). s ++ (b ∷ [])) (ap (λ (j : ℕ). take j l.bytes) n ∙ st.kept (omega arith));
        long = λ k. absurd (omega arith);
      }

  stands_over : (b : ℕ) → line_bytes ≤ length seen → Stands (over l) (seen ++ (b ∷ []))
  stands_over b h =
      let m = length_snoc seen b in
      record { room = st.room; short = λ k. absurd (omega arith); kept = λ k. absurd (omega arith); long = λ k. refl }

  full_by : (t : Bool) → leb (length seen) line_bytes ≡ t → line_bytes ≤ length seen → line_bytes ≤ l.count
  full_by true e h = omega (arith, st.short (leb-true _ _ e))
  full_by false e h = omega (arith, st.long (leb-false _ _ e))

  pushed_by : (b : ℕ) (t : Bool) → ltb (length seen) line_bytes ≡ t → Stands (pushed l b) (seen ++ (b ∷ []))
  pushed_by b true e =
      let h = ltb-true _ _ e in
      subst⁻¹ (λ (m : Line). Stands m (seen ++ (b ∷ []))) (pushed_stored l b (omega (arith, st.short (omega arith)))) (stands_stored b h)
  pushed_by b false e =
      let h = ltb-false _ _ e in
      subst⁻¹ (λ (m : Line). Stands m (seen ++ (b ∷ []))) (pushed_over l b (full_by (leb (length seen) line_bytes) refl h)) (stands_over b h)

  stands_pushed : (b : ℕ) → Stands (pushed l b) (seen ++ (b ∷ []))
  stands_pushed b = pushed_by b (ltb (length seen) line_bytes) refl

  held_short : length seen ≤ line_bytes → held_command l ≡ command_of seen
  unfolding held_command
  held_short h =
      if_f _ _ _ (le-ltb line_bytes l.count (omega (arith, st.short h)))
      ∙ ap command_of (ap (λ (j : ℕ). take j l.bytes) (st.short h) ∙ st.kept h)

  held_long : line_bytes < length seen → held_command l ≡ command_of seen
  unfolding held_command
  held_long h = if_t _ _ _ (lt-ltb line_bytes l.count (omega (arith, st.long h))) ∙ sym (long_no_call seen (omega arith))

  held_by : (t : Bool) → leb (length seen) line_bytes ≡ t → held_command l ≡ command_of seen
  held_by true e = held_short (leb-true _ _ e)
  held_by false e = held_long (leb-false _ _ e)

  stands_held : held_command l ≡ command_of seen
  stands_held = held_by (leb (length seen) line_bytes) refl

some_by : (l : Line) (s : ℕ) (ss : List ℕ) → Stands l (s ∷ ss) → (t : Bool) → leb (suc (length ss)) line_bytes ≡ t → l.count ≡ 0 → ⊥
some_by l s ss st true e z = omega (arith, st.short (leb-true _ _ e))
some_by l s ss st false e z = omega (arith, st.long (leb-false _ _ e))

-- the bytes before the first of the lines belong to it
joined : List ℕ → List (List ℕ) → List (List ℕ)
joined [] ls = ls
joined (s ∷ ss) ls = onto s (joined ss ls)

joined_onto : (ss : List ℕ) (b : ℕ) (ls : List (List ℕ)) → joined (ss ++ (b ∷ [])) ls ≡ joined ss (onto b ls)
unfolding joined
joined_onto [] b ls = refl
joined_onto (s ∷ ss) b ls = ap (onto s) (joined_onto ss b ls)

joined_line : (ss l : List ℕ) (ls : List (List ℕ)) → joined ss (l ∷ ls) ≡ (ss ++ l) ∷ ls
unfolding joined
joined_line [] l ls = refl
joined_line (s ∷ ss) l ls = ap (onto s) (joined_line ss l ls)

joined_none : (s : ℕ) (ss : List ℕ) → joined (s ∷ ss) [] ≡ (s ∷ ss) ∷ []
unfolding joined
joined_none s [] = refl
joined_none s (t ∷ ts) = ap (onto s) (joined_none t ts)

-- a byte other than CR goes on with its line, and so does a CR that no LF follows
lines_byte : (b : ℕ) (bs : List ℕ) → (b ≡ cr → ⊥) → lines_of (b ∷ bs) ≡ onto b (lines_of bs)
unfolding lines_of
lines_byte b [] n = refl
lines_byte b (c ∷ bs) n = if_f _ _ _ (ap (λ (t : Bool). t && eqb c lf) (ne_eqb b cr n))

lines_cr : (b : ℕ) (bs : List ℕ) → eqb b lf ≡ false → lines_of (cr ∷ b ∷ bs) ≡ onto cr (lines_of (b ∷ bs))
unfolding lines_of
lines_cr b bs e = if_f _ _ _ e

lines_end : (b : ℕ) (bs : List ℕ) → eqb b lf ≡ true → lines_of (cr ∷ b ∷ bs) ≡ [] ∷ lines_of bs
unfolding lines_of
lines_end b bs e = if_t _ _ _ e

-- the commands of the lines whose first starts with these bytes
abbrev rest : List ℕ → List ℕ → List Command
rest seen bs = map command_of (joined seen (lines_of bs))

abbrev pending : Bool → List ℕ → List ℕ
pending true bs = cr ∷ bs
pending false bs = bs

abbrev Right : List ℕ → Type 0
Right bs = (l : Line) (seen : List ℕ) → Stands l seen → (t : Bool) → l.cr ≡ t → commands_from l bs ≡ rest seen (pending t bs)

-- the input ends, with l₁ the line that is left
ends : (l l₁ : Line) (seen : List ℕ) → settled l ≡ l₁ → Stands l₁ seen → commands_from l [] ≡ map command_of (joined seen [])
unfolding commands_from joined
ends l l₁ [] e st = ap (λ (x : Option Command). and_then x []) (finished_none l (ap (λ (m : Line). m.count) e ∙ st.short (omega arith)))
ends l l₁ (s ∷ ss) e st =
    ap (λ (x : Option Command). and_then x []) (finished_some l (λ z. some_by l₁ s ss st (leb (suc (length ss)) line_bytes) refl (sym (ap (λ (m : Line). m.count) e) ∙ z)))
    ∙ ap (λ (c : Command). c ∷ []) (ap held_command e ∙ stands_held l₁ (s ∷ ss) st)
    ∙ ap (map command_of) (sym (joined_none s ss))

-- one step
from_byte : (l : Line) (b : ℕ) (bs : List ℕ) (f : Fed) → fed l b ≡ f → commands_from l (b ∷ bs) ≡ and_then f.ended (commands_from f.line bs)
unfolding commands_from
from_byte l b bs f e = ap (λ (g : Fed). and_then g.ended (commands_from g.line bs)) e

-- a byte that ends no line, with l₁ the line before it
goes_by : (t : Bool) (l l₁ : Line) (seen : List ℕ) (b : ℕ) (bs : List ℕ) → eqb b cr ≡ t → settled l ≡ l₁ → Stands l₁ seen → l.cr && eqb b lf ≡ false → Right bs
    → commands_from l (b ∷ bs) ≡ rest seen (b ∷ bs)
goes_by true l l₁ seen b bs q e st n right =
    let h = eqb-true b cr q in
    from_byte l b bs (going (with_cr l₁)) (fed_cr l b n h ∙ ap (λ (m : Line). going (with_cr m)) e)
    ∙ right (with_cr l₁) seen (stands_cr l₁ seen st) true refl
    ∙ ap (λ (c : ℕ). rest seen (c ∷ bs)) (sym h)
goes_by false l l₁ seen b bs q e st n right =
    let h = eqb-false b cr q in
    from_byte l b bs (going (pushed l₁ b)) (fed_byte l b n h ∙ ap (λ (m : Line). going (pushed m b)) e)
    ∙ right (pushed l₁ b) (seen ++ (b ∷ [])) (stands_pushed l₁ seen st b) false (pushed_no_cr l₁ b)
    ∙ ap (map command_of) (joined_onto seen b (lines_of bs) ∙ ap (joined seen) (sym (lines_byte b bs h)))

goes : (l l₁ : Line) (seen : List ℕ) (b : ℕ) (bs : List ℕ) → settled l ≡ l₁ → Stands l₁ seen → l.cr && eqb b lf ≡ false → Right bs
    → commands_from l (b ∷ bs) ≡ rest seen (b ∷ bs)
goes l l₁ seen b bs e st n right = goes_by (eqb b cr) l l₁ seen b bs refl e st n right

-- a byte after a CR
after_cr : (t : Bool) (l : Line) (seen : List ℕ) (b : ℕ) (bs : List ℕ) → eqb b lf ≡ t → l.cr ≡ true → Stands l seen → Right bs
    → commands_from l (b ∷ bs) ≡ rest seen (cr ∷ b ∷ bs)
unfolding joined
after_cr true l seen b bs q e st right =
    from_byte l b bs (record { line = no_line; ended = Some (held_command l) }) (fed_end l b (ap (λ (t : Bool). t && eqb b lf) e ∙ q))
    ∙ ap (λ (c : Command). c ∷ commands_from no_line bs) (stands_held l seen st ∙ ap command_of (sym (append-nil seen)))
    ∙ ap (λ (cs : List Command). command_of (seen ++ []) ∷ cs) (right no_line [] stands_none false (unfold no_line in refl))
    ∙ ap (map command_of) (sym (joined_line seen [] (lines_of bs)) ∙ ap (joined seen) (sym (lines_end b bs q)))
after_cr false l seen b bs q e st right =
    goes l (pushed l cr) (seen ++ (cr ∷ [])) b bs (settled_cr l e) (stands_pushed l seen st cr) (ap (λ (t : Bool). t && eqb b lf) e ∙ q) right
    ∙ ap (map command_of) (joined_onto seen cr (lines_of (b ∷ bs)) ∙ ap (joined seen) (sym (lines_cr b bs q)))

right_none : Right []
unfolding lines_of
right_none l seen st true e =
    ends l (pushed l cr) (seen ++ (cr ∷ [])) (settled_cr l e) (stands_pushed l seen st cr) ∙ ap (map command_of) (joined_onto seen cr [])
right_none l seen st false e = ends l l seen (settled_not l e) st

right_byte : (b : ℕ) (bs : List ℕ) → Right bs → Right (b ∷ bs)
right_byte b bs right l seen st true e = after_cr (eqb b lf) l seen b bs refl e st right
right_byte b bs right l seen st false e = goes l l seen b bs (settled_not l e) st (ap (λ (t : Bool). t && eqb b lf) e) right

right_all : (bs : List ℕ) → Right bs
right_all [] = right_none
right_all (b ∷ bs) = right_byte b bs (right_all bs)

pub commands_of_lines : (input : List ℕ) → commands_from no_line input ≡ map command_of (lines_of input)
unfolding no_line joined
commands_of_lines input = right_all input no_line [] stands_none false refl
