-- Whether the value of a token that stands there is bad, for every kind. Assumes nothing.
use mathlib.Core.Bool.{Bool, false, ◌||◌}
use mathlib.Core.List.{List}
use Prim.Native.Nat.{ℕ}
use Rattle.rules.specs.Test.{Says}
use Rattle.rules.proofs.Tests.{says_no}
use Rattle.lexicon.specs.declared.Form.TheVariants as Form
use Rattle.lexicon.specs.declared.Kind.{Kind}
use Rattle.lexicon.specs.Token.{Told, Bad}
use Rattle.decisions.proofs.Tests.{either}
use Rattle.decisions.proofs.Fractions.{over_zero, over_zero_lem, small_radix, small_radix_lem}
use Rattle.decisions.proofs.Blobs.{bad_blob, bad_blob_lem}
use Rattle.decisions.proofs.Codes.{bad_code, bad_code_lem}
use Rattle.decisions.proofs.Quoted.{bad_quoted, bad_quoted_lem}

module _ (text : List ℕ) where
  abbrev pub bad_of : Kind → ℕ → ℕ → Bool
  bad_of Kind.Ignorance i j = false
  bad_of (Kind.Boolean b) i j = false
  bad_of (Kind.Integer signed) i j = false
  bad_of Kind.Fraction i j = over_zero text i j || small_radix text i j
  bad_of Kind.Bits i j = false
  bad_of Kind.Blob i j = bad_blob text i j
  bad_of (Kind.Text Form.Quoted) i j = bad_quoted text i j
  bad_of (Kind.Text Form.Word) i j = false
  bad_of (Kind.Text (Form.HeadWord h)) i j = false
  bad_of (Kind.Text Form.CodePoint) i j = bad_code text i j
  bad_of Kind.Later i j = false
  bad_of (Kind.Symbol s) i j = false
  bad_of Kind.Colon i j = false
  bad_of Kind.TwoColons i j = false

  pub bad_is : (k : Kind) (i j : ℕ) → Told text k i j → Says (bad_of k i j) (Bad text k i j)
  bad_is Kind.Ignorance i j t = says_no (λ x. x)
  bad_is (Kind.Boolean b) i j t = says_no (λ x. x)
  bad_is (Kind.Integer signed) i j t = says_no (λ x. x)
  bad_is Kind.Fraction i j t = either (over_zero_lem text i j) (small_radix_lem text i j)
  bad_is Kind.Bits i j t = says_no (λ x. x)
  bad_is Kind.Blob i j t = bad_blob_lem text i j t.takes
  bad_is (Kind.Text Form.Quoted) i j t = bad_quoted_lem text i j
  bad_is (Kind.Text Form.Word) i j t = says_no (λ x. x)
  bad_is (Kind.Text (Form.HeadWord h)) i j t = says_no (λ x. x)
  bad_is (Kind.Text Form.CodePoint) i j t = bad_code_lem text i j
  bad_is Kind.Later i j t = says_no (λ x. x)
  bad_is (Kind.Symbol s) i j t = says_no (λ x. x)
  bad_is Kind.Colon i j t = says_no (λ x. x)
  bad_is Kind.TwoColons i j t = says_no (λ x. x)
