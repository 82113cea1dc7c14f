-- Examples by computation: lines with their commands.
use Prim.Native.String.{String}
use Rattle.std.specs.Prelude.{◌≡◌, refl, List, [], ◌∷◌, map}
use Rattle.texts.specs.Text.{bytes}
use Rattle.texts.specs.Same.{same}
use Rattle.texts.specs.Fields.{fields_of}
use Rattle.decimals.specs.Numbers.{digits_from, number_in}
use Rattle.bench_names.specs.Names.{call_alone, call_one, call_two, call_four}
use Rattle.bench_names.specs.declared.Command.{Command}
use Rattle.bench_names.specs.declared.Command.TheVariants.{Transaction, Lock, Object, Stability, Collection, Reopening, NoCall}
use Rattle.bench_names.specs.declared.TransactionCall.TheVariants.{Begin, Commit, Abort}
use Rattle.bench_names.specs.declared.LockCall.TheVariants.{LockRead, LockWrite}
use Rattle.bench_names.specs.declared.ObjectCall.TheVariants.{Flush, Read, Create, Set}
use Rattle.bench_names.specs.declared.StabilityCall.TheVariants.{Store, Force, Empty}
use Rattle.bench_names.specs.declared.PassCall.TheVariants.{Pass, Step}
use Rattle.bench_names.specs.declared.ReopeningCall.TheVariants.{Reopen, Restep}
use Rattle.bench_commands.specs.Commands.{numbers_from, command_of}

-- a line and its command
abbrev pub Row : Type 0
Row = String × Command

-- one such example
abbrev pub row : String → Command → Row
row s c = (s, c)

-- the lines of document 01's bench input, then every other call, then lines that are no call
pub table : List Row
table =
    row "begin,0" (Transaction (Begin 0))
    ∷ row "lockw,0,0" (Lock (LockWrite 0 0))
    ∷ row "create,0,2" (Object (Create 0 2))
    ∷ row "set,0,1,0,2" (Object (Set 0 1 0 2))
    ∷ row "flush,0,0" (Object (Flush 0 0))
    ∷ row "commit,0" (Transaction (Commit 0))
    ∷ row "begin,1" (Transaction (Begin 1))
    ∷ row "lockw,1,0" (Lock (LockWrite 1 0))
    ∷ row "set,1,1,0,0" (Object (Set 1 1 0 0))
    ∷ row "flush,1,0" (Object (Flush 1 0))
    ∷ row "commit,1" (Transaction (Commit 1))
    ∷ row "pass" (Collection Pass)
    ∷ row "step" (Collection Step)
    ∷ row "abort,15" (Transaction (Abort 15))
    ∷ row "lockr,0,255" (Lock (LockRead 0 255))
    ∷ row "read,0,4096" (Object (Read 0 4096))
    ∷ row "store,3" (Stability (Store 3))
    ∷ row "force" (Stability Force)
    ∷ row "empty" (Stability Empty)
    ∷ row "reopen" (Reopening Reopen)
    ∷ row "restep" (Reopening Restep)
    ∷ row "begin,4294967295" (Transaction (Begin 4294967295))
    ∷ row "begin,4294967296" NoCall
    ∷ row "begin,10000000000" NoCall
    ∷ row "begin,00" NoCall
    ∷ row "begin,01" NoCall
    ∷ row "begin,+1" NoCall
    ∷ row "begin,-0" NoCall
    ∷ row "begin,1a" NoCall
    ∷ row "begin, 1" NoCall
    ∷ row "begin," NoCall
    ∷ row "begin" NoCall
    ∷ row "begin,0," NoCall
    ∷ row "begin,0,0" NoCall
    ∷ row "set,0,,0,2" NoCall
    ∷ row "set,0,1,0" NoCall
    ∷ row "set,0,1,0,2,0" NoCall
    ∷ row "pass,0" NoCall
    ∷ row "pass," NoCall
    ∷ row "passes" NoCall
    ∷ row "pas" NoCall
    ∷ row "Pass" NoCall
    ∷ row "PASS" NoCall
    ∷ row " pass" NoCall
    ∷ row "\"pass\"" NoCall
    ∷ row "pass\r" NoCall
    ∷ row "\rpass" NoCall
    ∷ row "pass\n" NoCall
    ∷ row "\npass" NoCall
    ∷ row "pass\nstep" NoCall
    ∷ row "," NoCall
    ∷ row "" NoCall
    ∷ []

pub commands : map (λ (r : Row). command_of (bytes r.0)) table ≡ map (λ (r : Row). r.1) table
unfolding table digits_from number_in same fields_of numbers_from call_alone call_one call_two call_four command_of
commands = refl
