-- What the listing leaves in the lent buffer. Assumes nothing.
use Rattle.std.specs.Prelude.{◌≡◌, List, ◌++◌, ℕ, ◌≤◌, length, drop}
use Rattle.reading.specs.declared.Answer.{Answer}
use Rattle.reading.specs.Sizes.{base}
use Rattle.reading.specs.Answers.{Answers}
use Rattle.listing.specs.Listing.{listing}

-- the listing of the answer to a text stands at the buffer's start, and nothing else is written
pub record Listed (level : ℕ) (text t t' out out' : List ℕ) (r : ℕ) : Type 0 where
  pub answer : Answer
  pub answers : Answers base text t level answer t'
  pub count : r ≡ length (listing level answer t')
  pub bytes_are : out' ≡ listing level answer t' ++ drop r out
  pub within : r ≤ length out'
