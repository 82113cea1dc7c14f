-- Document 01, the bench program: the calls of "unquoted RFC 4180 lines".
use Rattle.std.specs.Prelude.{ℕ, List, [], ◌∷◌, Option, Some, None}
use Rattle.texts.specs.Fields.{fields_of}
use Rattle.decimals.specs.Numbers.{number_in}
use Rattle.bench_names.specs.Names.{call_alone, call_one, call_two, call_four}
use Rattle.bench_names.specs.declared.Command.{Command}
use Rattle.bench_names.specs.declared.Command.TheVariants.{NoCall}
use Rattle.bench_commands.specs.declared.Numbers.{Numbers}
use Rattle.bench_commands.specs.declared.Numbers.TheVariants.{Zero, One, Two, Three, Four}

-- the numbers so far, and one field more; no call has a fifth: "`set` with t, object, field, word" has the most
abbrev pub and_number : Option Numbers → Option ℕ → Option Numbers
and_number ns None = None
and_number (Some Zero) (Some a) = Some (One a)
and_number (Some (One a)) (Some b) = Some (Two a b)
and_number (Some (Two a b)) (Some c) = Some (Three a b c)
and_number (Some (Three a b c)) (Some d) = Some (Four a b c d)
and_number (Some (Four a b c d)) (Some e) = None
and_number None (Some a) = None

-- "with t, object, field, word": the numbers so far, and those of the fields that follow
unfoldable pub numbers_from : Option Numbers → List (List ℕ) → Option Numbers
numbers_from ns [] = ns
numbers_from ns (f ∷ fs) = numbers_from (and_number ns (number_in f)) fs

-- "The calls are ..": the call of a name with these numbers; no call has three
abbrev pub call_of : List ℕ → Option Numbers → Command
call_of name (Some Zero) = call_alone name
call_of name (Some (One a)) = call_one name a
call_of name (Some (Two a b)) = call_two name a b
call_of name (Some (Three a b c)) = NoCall
call_of name (Some (Four a b c d)) = call_four name a b c d
call_of name None = NoCall

-- "The calls are `begin`, `commit`, `abort` with t; ..": the first field is the name, and the others are its numbers
abbrev pub call_of_fields : List (List ℕ) → Command
call_of_fields [] = NoCall
call_of_fields (name ∷ fs) = call_of name (numbers_from (Some Zero) fs)

-- "reads calls as unquoted RFC 4180 lines": the command of a line, given without its end; NoCall is "A line that is no call"
unfoldable pub command_of : List ℕ → Command
command_of line = call_of_fields (fields_of line)
