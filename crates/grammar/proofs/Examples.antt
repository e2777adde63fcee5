-- Texts of document 01 and of the readings, as tokens: how many the machine takes, and whether it stands at a whole value.
-- Assumes nothing.
use mathlib.Core.Path.{◌≡◌, refl}
use mathlib.Core.Bool.{Bool, true, false}
use mathlib.Core.List.{List, [], ◌∷◌}
use mathlib.Core.Option.{Option, none, some}
use Prim.Native.Nat.{ℕ, suc}
use Rattle.lexicon.specs.declared.Bound.TheVariants.{Open, Less, LessEqual}
use Rattle.lexicon.specs.declared.Head.{Head}
use Rattle.grammar.specs.Tokens.{Span, Class, tok, atom, text, names, round, curly, square, mark, later, boolean, integer, spelled, head_word, word, quoted, round_close, curly_close, square_close, comma, colon, right_arrow, left_arrow, dots, star}
use Rattle.grammar.specs.Level.{Level, level1, level2}
use Rattle.grammar.proofs.Frames.{Config, want, have, want_text, want_curly, want_count, have_item, want_close}
use Rattle.grammar.proofs.Machine.{step}

abbrev here : Span
here = record { first = 0; end = 0 }

-- how many configurations are reached, which is one more than the tokens taken, and whether the last stands at a whole value
record Judged : Type 0 where
  reached : ℕ
  whole : Bool

abbrev ended : Config → Bool
ended (want K) = false
ended (have v []) = true
ended (have v (f ∷ K)) = false
ended (want_text n o K) = false
ended (want_curly o h s k K) = false
ended (want_count c f v k K) = false
ended (have_item c f i K) = false
ended (want_close c K) = false

module _ (l : Level) where
  abbrev judge : List Class → Option Config → ℕ → Judged
  judge [] none n = record { reached = n; whole = false }
  judge [] (some c) n = record { reached = suc n; whole = ended c }
  judge (k ∷ ks) none n = record { reached = n; whole = false }
  judge (k ∷ ks) (some c) n = judge ks (step l c (tok k here)) (suc n)

abbrev reads : Level → List Class → Judged
reads l ks = judge l ks (some (want [])) 0

abbrev yes_of : ℕ → Judged
yes_of n = record { reached = suc n; whole = true }

abbrev no_at : ℕ → Judged
no_at n = record { reached = suc n; whole = false }

abbrev x : Class
x = text (spelled word)

abbrev q : Class
q = text (spelled quoted)

abbrev head : Head → Class
head h = text (head_word h)

abbrev five : Class
five = atom (integer false)

abbrev signed : Class
signed = atom (integer true)

abbrev truth : Class
truth = atom (boolean true)

record Example : Type 0 where
  level : Level
  tokens : List Class
  answer : Judged

abbrev example : Level → List Class → Judged → Example
example l ks j = record { level = l; tokens = ks; answer = j }

abbrev examples : List Example
examples =
    -- (Mix)
    example level1 (round ∷ head Head.Mix ∷ mark round_close ∷ []) (yes_of 3)
    -- (Mix,)
    ∷ example level1 (round ∷ head Head.Mix ∷ mark comma ∷ mark round_close ∷ []) (yes_of 4)
    -- (Mix->5)
    ∷ example level1 (round ∷ head Head.Mix ∷ mark right_arrow ∷ five ∷ mark round_close ∷ []) (yes_of 5)
    -- (Mix<-5)
    ∷ example level1 (round ∷ head Head.Mix ∷ mark left_arrow ∷ five ∷ mark round_close ∷ []) (yes_of 5)
    -- (,Mix:5)
    ∷ example level1 (round ∷ mark comma ∷ head Head.Mix ∷ mark colon ∷ five ∷ mark round_close ∷ []) (yes_of 6)
    -- ((Mix):5)
    ∷ example level1 (round ∷ round ∷ head Head.Mix ∷ mark round_close ∷ mark colon ∷ five ∷ mark round_close ∷ []) (yes_of 7)
    -- ("Mix":5)
    ∷ example level1 (round ∷ q ∷ mark colon ∷ five ∷ mark round_close ∷ []) (yes_of 5)
    -- {Mix:5}
    ∷ example level1 (curly ∷ head Head.Mix ∷ mark colon ∷ five ∷ mark curly_close ∷ []) (yes_of 5)
    -- (x,Mix:5)
    ∷ example level1 (round ∷ x ∷ mark comma ∷ head Head.Mix ∷ mark colon ∷ five ∷ mark round_close ∷ []) (yes_of 7)
    -- (::Mix:5)
    ∷ example level1 (round ∷ names ∷ head Head.Mix ∷ mark colon ∷ five ∷ mark round_close ∷ []) (yes_of 6)
    -- ("Array":{a})
    ∷ example level1 (round ∷ q ∷ mark colon ∷ curly ∷ x ∷ mark curly_close ∷ mark round_close ∷ []) (yes_of 7)
    -- the empty text
    ∷ example level1 [] (no_at 0)
    -- (Array:5)
    ∷ example level1 (round ∷ head Head.Array ∷ mark colon ∷ five ∷ mark round_close ∷ []) (no_at 2)
    -- (Array:5)
    ∷ example level2 (round ∷ head Head.Array ∷ mark colon ∷ five ∷ mark round_close ∷ []) (no_at 3)
    -- (Array::x)
    ∷ example level2 (round ∷ head Head.Array ∷ names ∷ x ∷ mark round_close ∷ []) (no_at 2)
    -- (Mix:
    ∷ example level2 (round ∷ head Head.Mix ∷ mark colon ∷ []) (no_at 2)
    -- (Mix
    ∷ example level2 (round ∷ head Head.Mix ∷ []) (no_at 2)
    -- ::0L
    ∷ example level2 (names ∷ later ∷ []) (no_at 1)
    -- ::5
    ∷ example level2 (names ∷ five ∷ []) (no_at 1)
    -- ::a::b
    ∷ example level1 (names ∷ x ∷ names ∷ x ∷ []) (yes_of 4)
    -- (Array:[1])
    ∷ example level2 (round ∷ head Head.Array ∷ mark colon ∷ square ∷ five ∷ mark square_close ∷ mark round_close ∷ []) (no_at 3)
    -- (Array:(Mix:{}))
    ∷ example level2 (round ∷ head Head.Array ∷ mark colon ∷ round ∷ head Head.Mix ∷ mark colon ∷ curly ∷ mark curly_close ∷ mark round_close ∷ mark round_close ∷ []) (no_at 3)
    -- (Array:{a:0L})
    ∷ example level2 (round ∷ head Head.Array ∷ mark colon ∷ curly ∷ x ∷ mark colon ∷ later ∷ mark curly_close ∷ mark round_close ∷ []) (no_at 6)
    -- (Set:{a:[]})
    ∷ example level2 (round ∷ head Head.Set ∷ mark colon ∷ curly ∷ x ∷ mark colon ∷ square ∷ mark square_close ∷ mark curly_close ∷ mark round_close ∷ []) (no_at 6)
    -- {,,0L}
    ∷ example level2 (curly ∷ mark comma ∷ mark comma ∷ later ∷ mark curly_close ∷ []) (no_at 3)
    -- x[
    ∷ example level2 (x ∷ square ∷ []) (no_at 1)
    -- x 0L
    ∷ example level2 (x ∷ later ∷ []) (no_at 1)
    -- [*0L]
    ∷ example level2 (square ∷ mark (star Open Open) ∷ later ∷ mark square_close ∷ []) (no_at 2)
    -- [*<0L]
    ∷ example level2 (square ∷ mark (star Open Less) ∷ later ∷ mark square_close ∷ []) (no_at 2)
    -- (0L:5,)
    ∷ example level2 (round ∷ later ∷ mark colon ∷ five ∷ mark comma ∷ mark round_close ∷ []) (no_at 1)
    -- [1..10]
    ∷ example level1 (square ∷ five ∷ mark dots ∷ five ∷ mark square_close ∷ []) (no_at 0)
    -- (Array:{a:5})
    ∷ example level2 (round ∷ head Head.Array ∷ mark colon ∷ curly ∷ x ∷ mark colon ∷ five ∷ mark curly_close ∷ mark round_close ∷ []) (yes_of 9)
    -- (Array:{a:+5})
    ∷ example level2 (round ∷ head Head.Array ∷ mark colon ∷ curly ∷ x ∷ mark colon ∷ signed ∷ mark curly_close ∷ mark round_close ∷ []) (no_at 6)
    -- (Array:{a:(5)})
    ∷ example level2 (round ∷ head Head.Array ∷ mark colon ∷ curly ∷ x ∷ mark colon ∷ round ∷ five ∷ mark round_close ∷ mark curly_close ∷ mark round_close ∷ []) (no_at 6)
    -- (Set:{a:0bTRUE})
    ∷ example level2 (round ∷ head Head.Set ∷ mark colon ∷ curly ∷ x ∷ mark colon ∷ truth ∷ mark curly_close ∷ mark round_close ∷ []) (yes_of 9)
    -- (Set:{a:1})
    ∷ example level2 (round ∷ head Head.Set ∷ mark colon ∷ curly ∷ x ∷ mark colon ∷ five ∷ mark curly_close ∷ mark round_close ∷ []) (no_at 6)
    -- (Set:{a:b})
    ∷ example level2 (round ∷ head Head.Set ∷ mark colon ∷ curly ∷ x ∷ mark colon ∷ x ∷ mark curly_close ∷ mark round_close ∷ []) (no_at 6)
    -- (Bag:{a:5,b,})
    ∷ example level2 (round ∷ head Head.Bag ∷ mark colon ∷ curly ∷ x ∷ mark colon ∷ five ∷ mark comma ∷ x ∷ mark comma ∷ mark curly_close ∷ mark round_close ∷ []) (yes_of 12)
    -- (Array:{a->5})
    ∷ example level2 (round ∷ head Head.Array ∷ mark colon ∷ curly ∷ x ∷ mark right_arrow ∷ five ∷ mark curly_close ∷ mark round_close ∷ []) (no_at 5)
    -- (Array:{a:5:6})
    ∷ example level2 (round ∷ head Head.Array ∷ mark colon ∷ curly ∷ x ∷ mark colon ∷ five ∷ mark colon ∷ five ∷ mark curly_close ∷ mark round_close ∷ []) (no_at 7)
    -- (Array:{,,})
    ∷ example level2 (round ∷ head Head.Array ∷ mark colon ∷ curly ∷ mark comma ∷ mark comma ∷ mark curly_close ∷ mark round_close ∷ []) (yes_of 8)
    -- (Array:{a} b)
    ∷ example level2 (round ∷ head Head.Array ∷ mark colon ∷ curly ∷ x ∷ mark curly_close ∷ x ∷ mark round_close ∷ []) (no_at 6)
    -- {}
    ∷ example level1 (curly ∷ mark curly_close ∷ []) (yes_of 2)
    -- {,}
    ∷ example level1 (curly ∷ mark comma ∷ mark curly_close ∷ []) (yes_of 3)
    -- {,,}
    ∷ example level1 (curly ∷ mark comma ∷ mark comma ∷ mark curly_close ∷ []) (yes_of 4)
    -- {,a}
    ∷ example level1 (curly ∷ mark comma ∷ x ∷ mark curly_close ∷ []) (yes_of 4)
    -- {a,}
    ∷ example level1 (curly ∷ x ∷ mark comma ∷ mark curly_close ∷ []) (yes_of 4)
    -- {,a,}
    ∷ example level1 (curly ∷ mark comma ∷ x ∷ mark comma ∷ mark curly_close ∷ []) (yes_of 5)
    -- ()
    ∷ example level1 (round ∷ mark round_close ∷ []) (yes_of 2)
    -- (,a)
    ∷ example level1 (round ∷ mark comma ∷ x ∷ mark round_close ∷ []) (yes_of 4)
    -- (a,)
    ∷ example level1 (round ∷ x ∷ mark comma ∷ mark round_close ∷ []) (yes_of 4)
    -- (,a,)
    ∷ example level1 (round ∷ mark comma ∷ x ∷ mark comma ∷ mark round_close ∷ []) (yes_of 5)
    -- {a,b<-c}
    ∷ example level1 (curly ∷ x ∷ mark comma ∷ x ∷ mark left_arrow ∷ x ∷ mark curly_close ∷ []) (yes_of 7)
    -- {a:b,c}
    ∷ example level1 (curly ∷ x ∷ mark colon ∷ x ∷ mark comma ∷ x ∷ mark curly_close ∷ []) (yes_of 7)
    -- {a->b}
    ∷ example level1 (curly ∷ x ∷ mark right_arrow ∷ x ∷ mark curly_close ∷ []) (yes_of 5)
    -- {,,,}
    ∷ example level1 (curly ∷ mark comma ∷ mark comma ∷ mark comma ∷ mark curly_close ∷ []) (no_at 3)
    -- {a,,}
    ∷ example level1 (curly ∷ x ∷ mark comma ∷ mark comma ∷ mark curly_close ∷ []) (no_at 3)
    -- {,,a}
    ∷ example level1 (curly ∷ mark comma ∷ mark comma ∷ x ∷ mark curly_close ∷ []) (no_at 3)
    -- {a,,b}
    ∷ example level1 (curly ∷ x ∷ mark comma ∷ mark comma ∷ x ∷ mark curly_close ∷ []) (no_at 3)
    -- (,)
    ∷ example level1 (round ∷ mark comma ∷ mark round_close ∷ []) (no_at 2)
    -- (,,)
    ∷ example level1 (round ∷ mark comma ∷ mark comma ∷ mark round_close ∷ []) (no_at 2)
    -- (a,,)
    ∷ example level1 (round ∷ x ∷ mark comma ∷ mark comma ∷ mark round_close ∷ []) (no_at 3)
    -- (,,a)
    ∷ example level1 (round ∷ mark comma ∷ mark comma ∷ x ∷ mark round_close ∷ []) (no_at 2)
    -- (a,,b)
    ∷ example level1 (round ∷ x ∷ mark comma ∷ mark comma ∷ x ∷ mark round_close ∷ []) (no_at 3)
    -- [,]
    ∷ example level2 (square ∷ mark comma ∷ mark square_close ∷ []) (no_at 1)
    -- (x:y,)
    ∷ example level1 (round ∷ x ∷ mark colon ∷ x ∷ mark comma ∷ mark round_close ∷ []) (yes_of 6)
    -- ((x):y)
    ∷ example level1 (round ∷ round ∷ x ∷ mark round_close ∷ mark colon ∷ x ∷ mark round_close ∷ []) (yes_of 7)
    -- ((x):y,)
    ∷ example level1 (round ∷ round ∷ x ∷ mark round_close ∷ mark colon ∷ x ∷ mark comma ∷ mark round_close ∷ []) (no_at 6)
    -- (5:y)
    ∷ example level1 (round ∷ five ∷ mark colon ∷ x ∷ mark round_close ∷ []) (yes_of 5)
    -- (5:y,)
    ∷ example level1 (round ∷ five ∷ mark colon ∷ x ∷ mark comma ∷ mark round_close ∷ []) (no_at 4)
    -- (,5:y)
    ∷ example level1 (round ∷ mark comma ∷ five ∷ mark colon ∷ x ∷ mark round_close ∷ []) (no_at 3)
    -- (a,5:y)
    ∷ example level1 (round ∷ x ∷ mark comma ∷ five ∷ mark colon ∷ x ∷ mark round_close ∷ []) (no_at 4)
    -- (,(x):y)
    ∷ example level1 (round ∷ mark comma ∷ round ∷ x ∷ mark round_close ∷ mark colon ∷ x ∷ mark round_close ∷ []) (no_at 5)
    -- (x->y,)
    ∷ example level1 (round ∷ x ∷ mark right_arrow ∷ x ∷ mark comma ∷ mark round_close ∷ []) (no_at 4)
    -- (,x->y)
    ∷ example level1 (round ∷ mark comma ∷ x ∷ mark right_arrow ∷ x ∷ mark round_close ∷ []) (no_at 3)
    -- (::a::b:y,)
    ∷ example level1 (round ∷ names ∷ x ∷ names ∷ x ∷ mark colon ∷ x ∷ mark comma ∷ mark round_close ∷ []) (yes_of 9)
    -- ((::a):y,)
    ∷ example level1 (round ∷ round ∷ names ∷ x ∷ mark round_close ∷ mark colon ∷ x ∷ mark comma ∷ mark round_close ∷ []) (no_at 7)
    -- (x:y:z)
    ∷ example level1 (round ∷ x ∷ mark colon ∷ x ∷ mark colon ∷ x ∷ mark round_close ∷ []) (no_at 4)
    -- ({}:y,)
    ∷ example level1 (round ∷ curly ∷ mark curly_close ∷ mark colon ∷ x ∷ mark comma ∷ mark round_close ∷ []) (no_at 5)
    -- {}5
    ∷ example level1 (curly ∷ mark curly_close ∷ five ∷ []) (no_at 2)
    -- {5}
    ∷ example level1 (curly ∷ five ∷ mark curly_close ∷ []) (yes_of 3)
    -- {x 0L}
    ∷ example level1 (curly ∷ five ∷ later ∷ mark curly_close ∷ []) (no_at 2)
    -- []
    ∷ example level2 (square ∷ mark square_close ∷ []) (yes_of 2)
    -- [v]
    ∷ example level2 (square ∷ x ∷ mark square_close ∷ []) (yes_of 3)
    -- [1..10]
    ∷ example level2 (square ∷ five ∷ mark dots ∷ five ∷ mark square_close ∷ []) (yes_of 5)
    -- [a<=*<=b]
    ∷ example level2 (square ∷ x ∷ mark (star LessEqual LessEqual) ∷ x ∷ mark square_close ∷ []) (yes_of 5)
    -- [a<=*<b]
    ∷ example level2 (square ∷ x ∷ mark (star LessEqual Less) ∷ x ∷ mark square_close ∷ []) (yes_of 5)
    -- [a<*<=b]
    ∷ example level2 (square ∷ x ∷ mark (star Less LessEqual) ∷ x ∷ mark square_close ∷ []) (yes_of 5)
    -- [a<*<b]
    ∷ example level2 (square ∷ x ∷ mark (star Less Less) ∷ x ∷ mark square_close ∷ []) (yes_of 5)
    -- [a<=*]
    ∷ example level2 (square ∷ x ∷ mark (star LessEqual Open) ∷ mark square_close ∷ []) (yes_of 4)
    -- [a<*]
    ∷ example level2 (square ∷ x ∷ mark (star Less Open) ∷ mark square_close ∷ []) (yes_of 4)
    -- [*<=b]
    ∷ example level2 (square ∷ mark (star Open LessEqual) ∷ x ∷ mark square_close ∷ []) (yes_of 4)
    -- [*<b]
    ∷ example level2 (square ∷ mark (star Open Less) ∷ x ∷ mark square_close ∷ []) (yes_of 4)
    -- [*]
    ∷ example level2 (square ∷ mark (star Open Open) ∷ mark square_close ∷ []) (yes_of 3)
    -- [a*<b]
    ∷ example level2 (square ∷ x ∷ mark (star Open Less) ∷ x ∷ mark square_close ∷ []) (no_at 2)
    -- [a*]
    ∷ example level2 (square ∷ x ∷ mark (star Open Open) ∷ mark square_close ∷ []) (no_at 2)
    -- [<*b]
    ∷ example level2 (square ∷ mark (star Less Open) ∷ x ∷ mark square_close ∷ []) (no_at 1)
    -- [a..b..c]
    ∷ example level2 (square ∷ x ∷ mark dots ∷ x ∷ mark dots ∷ x ∷ mark square_close ∷ []) (no_at 4)
    -- [a<=*b]
    ∷ example level2 (square ∷ x ∷ mark (star LessEqual Open) ∷ x ∷ mark square_close ∷ []) (no_at 3)
    -- [*<b..c]
    ∷ example level2 (square ∷ mark (star Open Less) ∷ x ∷ mark dots ∷ x ∷ mark square_close ∷ []) (no_at 3)
    -- [a:b]
    ∷ example level2 (square ∷ x ∷ mark colon ∷ x ∷ mark square_close ∷ []) (no_at 2)
    ∷ []

abbrev expected : List Example → List Judged
expected [] = []
expected (e ∷ es) = e.answer ∷ expected es

abbrev judged : List Example → List Judged
judged [] = []
judged (e ∷ es) = reads e.level e.tokens ∷ judged es

pub all_judged : judged examples ≡ expected examples
all_judged = refl
