-- The tokens of a text, from left to right. Assumes nothing.
use Rattle.std.specs.Prelude.{List, [], ◌∷◌, ℕ, suc, pred}
use Rattle.lexicon.specs.declared.Token as Token
use Rattle.lexicon.specs.declared.Next.TheVariants as Next
use Rattle.lexicon.specs.Token.{Comes}
use Rattle.grammar.specs.Tokens.{Tok, tok, Class, atom, text, names, round, curly, square, mark, later, round_close}
use Rattle.grammar.specs.Tokens.{curly_close, square_close, comma, colon, right_arrow, left_arrow, dots, star, Mark}
use Rattle.grammar.specs.Tokens.{class_kind}

-- a token as the tree rules see it
abbrev pub seen : Token.Token → Tok
seen t = tok (class_kind t.kind) (record { first = t.first; end = t.end })

-- from place p the tokens ts stand one after the other, the last of them ending at q
pub data Follow (bytes : List ℕ) : ℕ → List Tok → ℕ → Type 0 where
  nothing : {p : ℕ} → Follow bytes p [] p
  next : {p q : ℕ} {t : Token.Token} {ts : List Tok} → Comes bytes p (Next.Token t) → Follow bytes t.end ts q →
      Follow bytes p (seen t ∷ ts) q

-- the brackets that stand open behind the tokens: each of `(` `{` `[` counts, groups too
abbrev pub open_mark : Mark → ℕ → ℕ
open_mark round_close n = pred n
open_mark curly_close n = pred n
open_mark square_close n = pred n
open_mark comma n = n
open_mark colon n = n
open_mark right_arrow n = n
open_mark left_arrow n = n
open_mark dots n = n
open_mark (star a b) n = n

abbrev pub open_behind : Class → ℕ → ℕ
open_behind (atom a) n = n
open_behind (text w) n = n
open_behind names n = n
open_behind round n = suc n
open_behind curly n = suc n
open_behind square n = suc n
open_behind (mark m) n = open_mark m n
open_behind later n = n

abbrev pub open_from : ℕ → List Tok → ℕ
open_from n [] = n
open_from n (t ∷ ts) = open_from (open_behind t.class n) ts

abbrev pub opened : List Tok → ℕ
opened ts = open_from 0 ts
