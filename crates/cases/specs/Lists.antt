-- Lists one behind the other, each behind its length; one that is cut short ends with them all.
use Rattle.std.specs.Prelude.{List, ℕ, zero, suc, ◌+◌, get_or, take, drop}

-- the list of a number, counted from 0
unfoldable pub list_of : ℕ → List ℕ → List ℕ
list_of zero lists = take (get_or lists 0 0) (drop 1 lists)
list_of (suc k) lists = list_of k (drop (get_or lists 0 0 + 1) lists)
