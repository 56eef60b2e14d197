-- Refusals: a check accepts, or refuses with a fault and a place; how checks are joined.
use Rattle.std.specs.Prelude.{Bool, cond, ◌&&◌, ℕ, zero, suc, leb, Result, Ok, Err}
use Rattle.model.specs.declared.refusal.Fault.{Fault}
use Rattle.model.specs.declared.refusal.Fault.TheVariants.{TooLong, ListsDiffer, NoForm, NoHeader, Misplaced, BadSizes, BadNode, BadLength, NotTurned, WrongArcs, BadSet, NoEdge, BeyondEdge, TooManyEvents, UnequalSets, NotInOrder, BadThresholds, NotRising}
use Rattle.model.specs.declared.refusal.Refusal.{Refusal}

-- 01's number of each fault. (1, 3 to 5, 10 and 11 are met by texts alone; 8 no longer occurs: 02, item 3.)
abbrev pub fault_number : Fault → ℕ
fault_number TooLong = 1
fault_number ListsDiffer = 2
fault_number NoForm = 3
fault_number NoHeader = 4
fault_number Misplaced = 5
fault_number BadSizes = 6
fault_number BadNode = 7
fault_number BadLength = 9
fault_number NotTurned = 10
fault_number WrongArcs = 11
fault_number BadSet = 12
fault_number NoEdge = 13
fault_number BeyondEdge = 14
fault_number TooManyEvents = 15
fault_number UnequalSets = 16
fault_number NotInOrder = 17
fault_number BadThresholds = 18
fault_number NotRising = 19

-- what a check says
abbrev pub Check : Type 0
Check = Result (Unit {0}) Refusal

abbrev pub accepted : Check
accepted = Ok tt

abbrev pub refused_at : Fault → ℕ → Refusal
refused_at fault place = record { fault = fault; place = place }

abbrev pub refusal : Fault → ℕ → Check
refusal fault place = Err (refused_at fault place)

-- the first check decides unless it accepts
unfoldable pub or_else : Check → Check → Check
or_else (Ok done) next = next
or_else (Err r) next = Err r

-- accepted where the test holds, otherwise refused with this fault and place
unfoldable pub unless : Bool → Fault → ℕ → Check
unless good fault place = cond good accepted (refusal fault place)

-- of n places from start on, the lowest at which the test fails
unfoldable pub first_bad_from : Fault → (ℕ → Bool) → ℕ → ℕ → Check
first_bad_from fault good start zero = accepted
first_bad_from fault good start (suc n) = or_else (unless (good start) fault start) (first_bad_from fault good (suc start) n)

-- of the indices below n, the lowest at which the test fails
unfoldable pub first_bad : Fault → (ℕ → Bool) → ℕ → Check
first_bad fault good n = first_bad_from fault good 0 n

-- number and place of a refusal; 0 and 0 where there is none
unfoldable pub number_of : Check → ℕ
number_of (Ok done) = 0
number_of (Err r) = fault_number r.fault

unfoldable pub place_of : Check → ℕ
place_of (Ok done) = 0
place_of (Err r) = r.place

-- the number is from low to high, both included
unfoldable pub is_between_of : ℕ → ℕ → ℕ → Bool
is_between_of low high n = leb low n && leb n high
