-- An answer told to a caller in another language: a refusal's number and place beside the result, which is a plain number.
use Rattle.std.specs.Prelude.{◌≡◌, ℕ, suc, Option, Some, None, Result, Ok, Err}
use Rattle.model.specs.Refusal.{Check, accepted, number_of, place_of}
use Rattle.model.specs.declared.network.NetworkSize.{NetworkSize}
use Rattle.model.specs.declared.refusal.Refusal.{Refusal}

-- 0 and 0 where nothing is refused
pub record Told (verdict : Check) (number place : ℕ) : Type 0 where
  pub number_is : number ≡ number_of verdict
  pub place_is : place ≡ place_of verdict

-- a result beside number and place
pub record ToldWith {Value : Type 0} (verdict : Check) (value r : Value) (number place : ℕ) : Type 0 where
  pub result_is : r ≡ value
  pub refusal : Told verdict number place

-- whether an answer is a refusal
unfoldable pub verdict_of : {Value : Type 0} → Result Value Refusal → Check
verdict_of (Ok value) = accepted
verdict_of (Err r) = Err r

-- the value, or another where it is refused
unfoldable pub value_or : {Value : Type 0} → Value → Result Value Refusal → Value
value_or otherwise (Ok value) = value
value_or otherwise (Err r) = otherwise

-- one more than the metres; 0 for none
unfoldable pub metres_code : Option ℕ → ℕ
metres_code (Some n) = suc n
metres_code None = 0

-- the same of an answer; 0 for no walk, beyond or refused
unfoldable pub length_code : Result (Option ℕ) Refusal → ℕ
length_code a = metres_code (value_or None a)

-- how many; 0 where refused
unfoldable pub count_of : Result ℕ Refusal → ℕ
count_of a = value_or 0 a

-- a network's sizes; 0 and 0 where refused
unfoldable pub size_read : Result NetworkSize Refusal → NetworkSize
size_read a = value_or (record { nodes = 0; edges = 0 }) a

-- a network read, with the number of nodes beside the other answers
pub record ToldNetwork (a : Result NetworkSize Refusal) (r nodes number place : ℕ) : Type 0 where
  pub told : ToldWith (verdict_of a) ((size_read a).edges) r number place
  pub nodes_are : nodes ≡ (size_read a).nodes
