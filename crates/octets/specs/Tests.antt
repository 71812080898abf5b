-- Tests one behind another. Document 01, "Numbers given back": "The first that applies, in this order, is given."
use Rattle.std.specs.Prelude.{Bool, false, cond, ◌||◌, List, [], ◌∷◌, ◌++◌, Result, Ok, Err}

-- at least one of the tests applies: where one of several things is wrong, a number is given
abbrev pub any : List Bool → Bool
any [] = false
any (b ∷ l) = b || any l

-- one line of the table of numbers: a test, and what is given where it applies
pub record Test (O : Type 0) : Type 0 where
  pub applies : Bool
  pub gives : O

abbrev pub test : {O : Type 0} → O → Bool → Test O
test o b = record { applies = b; gives = o }

-- one outcome behind several tests
abbrev pub tests : {O : Type 0} → O → List Bool → List (Test O)
tests o [] = []
tests o (b ∷ l) = test o b ∷ tests o l

-- groups of tests, one behind another
abbrev pub joined : {O : Type 0} → List (List (Test O)) → List (Test O)
joined [] = []
joined (g ∷ gs) = g ++ joined gs

-- the first that applies decides; where none does, o
abbrev pub first : {O : Type 0} → List (Test O) → O → O
first [] o = o
first (t ∷ l) o = cond t.applies t.gives (first l o)

-- the same where nothing is given yet if none applies: the first that applies is the error
abbrev pub checked : {O : Type 0} → List (Test O) → Result Unit O
checked [] = Ok tt
checked (t ∷ l) = cond t.applies (Err t.gives) (checked l)
