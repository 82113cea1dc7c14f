-- Document 01, the bench program: "The calls are `begin`, `commit`, `abort` with t; .." Each call's name and how many numbers it has.
use Rattle.std.specs.Prelude.{ℕ, cond as if, List}
use Rattle.texts.specs.Text.{bytes}
use Rattle.texts.specs.Same.{same}
use Rattle.bench_names.specs.declared.Command.{Command}
use Rattle.bench_names.specs.declared.Command.TheVariants.{Transaction, Lock, Object, Stability, Collection, Reopening, NoCall}
use Rattle.bench_names.specs.declared.TransactionCall.TheVariants.{Begin, Commit, Abort}
use Rattle.bench_names.specs.declared.LockCall.TheVariants.{LockRead, LockWrite}
use Rattle.bench_names.specs.declared.ObjectCall.TheVariants.{Flush, Read, Create, Set}
use Rattle.bench_names.specs.declared.StabilityCall.TheVariants.{Store, Force, Empty}
use Rattle.bench_names.specs.declared.PassCall.TheVariants.{Pass, Step}
use Rattle.bench_names.specs.declared.ReopeningCall.TheVariants.{Reopen, Restep}

-- "The calls are `begin`, `commit`, `abort` ..": their names, which are exact; upper case and spaces are other bytes

-- 'begin'
abbrev pub begin : List ℕ
begin = bytes "begin"

-- 'commit'
abbrev pub commit : List ℕ
commit = bytes "commit"

-- 'abort'
abbrev pub abort : List ℕ
abort = bytes "abort"

-- 'lockr'
abbrev pub lockr : List ℕ
lockr = bytes "lockr"

-- 'lockw'
abbrev pub lockw : List ℕ
lockw = bytes "lockw"

-- 'flush'
abbrev pub flush : List ℕ
flush = bytes "flush"

-- 'read'
abbrev pub read : List ℕ
read = bytes "read"

-- 'create'
abbrev pub create : List ℕ
create = bytes "create"

-- 'set'
abbrev pub set : List ℕ
set = bytes "set"

-- 'store'
abbrev pub store : List ℕ
store = bytes "store"

-- 'force'
abbrev pub force : List ℕ
force = bytes "force"

-- 'empty'
abbrev pub empty : List ℕ
empty = bytes "empty"

-- 'pass'
abbrev pub pass : List ℕ
pass = bytes "pass"

-- 'step'
abbrev pub step : List ℕ
step = bytes "step"

-- 'reopen'
abbrev pub reopen : List ℕ
reopen = bytes "reopen"

-- 'restep'
abbrev pub restep : List ℕ
restep = bytes "restep"

-- "`force`, `empty`, `pass`, `step`, `reopen`, `restep` (a reopening step) alone"
unfoldable pub call_alone : List ℕ → Command
call_alone name =
    if (same name force) (Stability Force)
    (if (same name empty) (Stability Empty)
    (if (same name pass) (Collection Pass)
    (if (same name step) (Collection Step)
    (if (same name reopen) (Reopening Reopen)
    (if (same name restep) (Reopening Restep) NoCall)))))

-- "`begin`, `commit`, `abort` with t", "`store` with page"
unfoldable pub call_one : List ℕ → ℕ → Command
call_one name a =
    if (same name begin) (Transaction (Begin a))
    (if (same name commit) (Transaction (Commit a))
    (if (same name abort) (Transaction (Abort a))
    (if (same name store) (Stability (Store a)) NoCall)))

-- "`lockr`, `lockw`, `flush` with t, page; `read`, `create` with t, object"
unfoldable pub call_two : List ℕ → ℕ → ℕ → Command
call_two name a b =
    if (same name lockr) (Lock (LockRead a b))
    (if (same name lockw) (Lock (LockWrite a b))
    (if (same name flush) (Object (Flush a b))
    (if (same name read) (Object (Read a b))
    (if (same name create) (Object (Create a b)) NoCall))))

-- "`set` with t, object, field, word"
unfoldable pub call_four : List ℕ → ℕ → ℕ → ℕ → ℕ → Command
call_four name a b c d = if (same name set) (Object (Set a b c d)) NoCall
