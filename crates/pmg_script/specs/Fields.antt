-- The meaning of the words of a line: numbers, processes, scopes, values.
use Rattle.std.specs.Prelude.{ℕ, zero, suc, ◌+◌, ◌*◌, ◌-◌, min, Bool, true, false, nat_le, List, [], ◌∷◌, codes, Option, Some, None, if◌then◌else◌}
use Rattle.std.specs.Char.{is_ascii_digit}
use Rattle.std.specs.List.{fold, list_all}
use Rattle.std.specs.Result.{result_ok}
use Rattle.std.specs.Str.{bytes_eq}
use Rattle.hex.specs.Hex.{decode_of}
use Rattle.pmg_value.specs.Process.{undef, wildcard}
use Rattle.pmg_value.specs.declared.process.Proc.{Proc}
use Rattle.pmg_value.specs.declared.value.Value.{Value}
use Rattle.pmg_wire.specs.Fields.{whole_value}
use Rattle.pmg_scope.specs.declared.scope.Scope.{Scope}
use Rattle.pmg_scope.specs.declared.scope.Scope.TheVariants as scopes
use Rattle.pmg_get.specs.declared.view.Mode.{Mode}
use Rattle.pmg_get.specs.declared.view.Mode.TheVariants as modes
use Rattle.pmg_script.specs.Lines.{Left, read_word, read_words, read_as, ◌>>=◌}

-- the number that decimal digits write
abbrev pub decimal_value : List ℕ → ℕ
decimal_value digits = fold (λ number digit. number * 10 + (digit - 48)) 0 digits

-- The greatest number of 64 bits replaces each greater one: nothing has such a number.
abbrev pub bounded : ℕ → ℕ
bounded number = min number 18446744073709551615

-- a number has only digits
unfoldable pub number_in : List ℕ → Option ℕ
number_in word = if list_all is_ascii_digit word then Some (bounded (decimal_value word)) else None

-- a number of 32 bits, as a rank
abbrev pub as_rank : ℕ → Option ℕ
as_rank number = if nat_le number undef then Some number else None

-- a rank is a number of 32 bits, or `*` for all ranks (PMIx Standard 5.0, pmix_rank_t: PMIX_RANK_WILDCARD)
unfoldable pub rank_in : List ℕ → Option ℕ
rank_in word = if bytes_eq word (codes "*") then Some wildcard else number_in word >>= as_rank

-- a scope, by the end of its name in the standard (PMIx Standard 5.0, pmix_scope_t)
unfoldable pub scope_in : List ℕ → Option Scope
scope_in word =
    if bytes_eq word (codes "internal") then Some scopes.Internal
    else if bytes_eq word (codes "local") then Some scopes.Local
    else if bytes_eq word (codes "remote") then Some scopes.Remote
    else if bytes_eq word (codes "global") then Some scopes.Global
    else if bytes_eq word (codes "undef") then Some scopes.Undef else None

-- whether a fence collects data
unfoldable pub collect_in : List ℕ → Option Bool
collect_in word = if bytes_eq word (codes "plain") then Some false else if bytes_eq word (codes "collect") then Some true else None

-- whether a get waits, and whether it asks the home of its target anew
unfoldable pub mode_in : List ℕ → Option Mode
mode_in word =
    if bytes_eq word (codes "wait") then Some modes.Wait
    else if bytes_eq word (codes "now") then Some modes.Now
    else if bytes_eq word (codes "refresh") then Some modes.Refresh else None

-- a value, by its canonical bytes in hexadecimal
unfoldable pub value_in : List ℕ → Option Value
value_in word = do
  bytes ← result_ok (decode_of word)
  result_ok (whole_value bytes)

-- a process: a word that names its namespace, with any bytes, and its rank
unfoldable pub read_proc_words : Left → Option (Proc × Left)
read_proc_words left = do
  nspace ← read_word left
  rank ← read_as rank_in nspace.1
  Some (record { nspace = nspace.0; rank = rank.0 }, rank.1)

-- so many processes
unfoldable pub read_procs : ℕ → Left → Option (List Proc × Left)
read_procs zero left = Some ([], left)
read_procs (suc n) left = do
  first ← read_proc_words left
  others ← read_procs n first.1
  Some (first.0 ∷ others.0, others.1)

-- each word as a number
abbrev pub as_numbers : List (List ℕ) → Option (List ℕ)
as_numbers [] = Some []
as_numbers (word ∷ words) = do
  first ← number_in word
  others ← as_numbers words
  Some (first ∷ others)

-- each two words as a process
abbrev pub procs_in : List (List ℕ) → Option (List Proc)
procs_in [] = Some []
procs_in (nspace ∷ []) = None
procs_in (nspace ∷ rank ∷ words) = do
  first ← rank_in rank
  others ← procs_in words
  Some (record { nspace = nspace; rank = first } ∷ others)

-- all words that are left, as numbers
unfoldable pub all_numbers : Left → Option (List ℕ)
all_numbers left = read_words left >>= as_numbers

-- all words that are left, as processes
unfoldable pub read_proc_list : Left → Option (List Proc)
read_proc_list left = read_words left >>= procs_in
