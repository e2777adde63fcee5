-- Spelled tokens, one behind the other, are a text with nothing to drop at its front, and UTF-8; so is the plain form. Assumes nothing.
use mathlib.Core.Path.{◌≡◌, refl}
use mathlib.Core.Bool.{true}
use mathlib.Core.List.{List, [], ◌∷◌, ◌++◌}
use Prim.Native.Nat.{ℕ, ◌≤◌}
use native.Mathlib.Omega.{arith}
use lib.ListN.{length}
use Rattle.rules.specs.Class.{◌upto◌}
use Rattle.rules.specs.Class as Bytes
use Rattle.rules.specs.Plain.{no_more}
use Rattle.rules.specs.Rule.{Rule, many, opt, Takes, nothing, left, right, Longest}
use Rattle.rules.proofs.Plain.{takes_whole}
use Rattle.rules.proofs.Classes.{apart, apart_span, includes, in_some}
use Rattle.rules.proofs.Ways.{never, never_takes, opens, end_takes}
use Rattle.lexicon.specs.Utf8.{sequence, WellFormed}
use Rattle.lexicon.specs.declared.Form.TheVariants.{Quoted, Word, HeadWord, CodePoint}
use Rattle.lexicon.specs.declared.Kind.{Kind}
use Rattle.lexicon.specs.declared.Kind.TheVariants.{Ignorance, Boolean, Integer, Fraction, Bits, Blob, Text, Later, Symbol, Colon, TwoColons}
use Rattle.lexicon.specs.Front.{Front, byte_order_mark, first_line}
use Rattle.lexicon.specs.Token.{an_ignorance, a_boolean, an_integer, a_fraction, a_bits, a_blob, a_quoted, a_word, a_code_point, a_later, a_symbol, rule}
use Rattle.lexicon.proofs.Tokens.{every, for_every}
use Rattle.grammar.specs.Tree.{Value}
use Rattle.grammar.specs.Yield.{yield_value}
use Rattle.form.specs.Spell.{bytes_of, spell, plain_form}
use Rattle.form.specs.Spell as Spell
use Rattle.form.proofs.Amid.{at_there}
use Rattle.form.proofs.Formed.{Formed, formed_join}
use Rattle.form.proofs.Neighbours.{Lones, none, some, first_in, first_at_lem}
use Rattle.form.proofs.Alone.{Pieces, spelled_lones}

-- ---- the front

-- the bytes that begin a token are ASCII, and no `#`
abbrev opening : Bytes.Class
opening = 0x21 upto 0x22 ∷ 0x24 upto 0x7F ∷ []

all_opening : every (λ m. opens opening (rule m)) ≡ true
unfolding opens includes in_some
all_opening = refl

colon_opening : first_in opening Colon ≡ true
unfolding includes in_some
colon_opening = refl

opening_mark : never opening byte_order_mark ≡ true
unfolding never apart apart_span
opening_mark = refl

opening_line : never opening first_line ≡ true
unfolding never apart apart_span
opening_line = refl

first_opening : (k : Kind) → first_in opening k ≡ true
first_opening Ignorance = for_every (λ m. opens opening (rule m)) all_opening an_ignorance
first_opening (Boolean b) = for_every (λ m. opens opening (rule m)) all_opening (a_boolean b)
first_opening (Integer s) = for_every (λ m. opens opening (rule m)) all_opening an_integer
first_opening Fraction = for_every (λ m. opens opening (rule m)) all_opening a_fraction
first_opening Bits = for_every (λ m. opens opening (rule m)) all_opening a_bits
first_opening Blob = for_every (λ m. opens opening (rule m)) all_opening a_blob
first_opening (Text Quoted) = for_every (λ m. opens opening (rule m)) all_opening a_quoted
first_opening (Text Word) = for_every (λ m. opens opening (rule m)) all_opening a_word
first_opening (Text (HeadWord h)) = for_every (λ m. opens opening (rule m)) all_opening a_word
first_opening (Text CodePoint) = for_every (λ m. opens opening (rule m)) all_opening a_code_point
first_opening Later = for_every (λ m. opens opening (rule m)) all_opening a_later
first_opening (Symbol s) = for_every (λ m. opens opening (rule m)) all_opening (a_symbol s)
first_opening Colon = colon_opening
first_opening TwoColons = colon_opening

-- an optional rule that does not begin here takes nothing
skipped : (text : List ℕ) (r : Rule) → ((k : ℕ) → Takes text r 0 k → ⊥) → Longest text (opt r) 0 0
skipped text r f = record { takes = right (nothing refl); most = λ t. go t }
  where
    go : {k : ℕ} → Takes text (opt r) 0 k → k ≤ 0
    go (left t) = absurd (f _ t)
    go (right (nothing e)) = omega (arith, e)

pub spelts_front : (ws : List Spell.Spelt) → Lones ws → Front (bytes_of ws) 0
spelts_front [] none =
    record {
      marked = 0;
      mark = skipped [] byte_order_mark (λ k t. end_takes [] byte_order_mark refl (omega arith) t);
      line = skipped [] first_line (λ k t. end_takes [] first_line refl (omega arith) t);
    }
spelts_front (w ∷ ws) (some l ls) =
    let T = w.bytes ++ bytes_of ws in
    let b = first_at_lem w.bytes opening l.kind (length w.bytes) (first_opening l.kind) l.is.told in
    let a = at_there T w.bytes (bytes_of ws) 0 refl opening 0 b in
    record {
      marked = 0;
      mark = skipped T byte_order_mark (λ k t. never_takes T opening byte_order_mark opening_mark a t);
      line = skipped T first_line (λ k t. never_takes T opening first_line opening_line a t);
    }

-- ---- UTF-8

pub spelts_formed : (ws : List Spell.Spelt) → Lones ws → Formed (bytes_of ws)
spelts_formed [] none = no_more
spelts_formed (w ∷ ws) (some l ls) = formed_join l.formed (spelts_formed ws ls)

-- ---- the plain form

module _ (bytes : List ℕ) (v : Value) (ps : Pieces bytes (yield_value v [])) where
  pub plain_front : Front (plain_form bytes v) 0
  plain_front = spelts_front (spell bytes v []) (spelled_lones bytes v ps)

  pub plain_formed : WellFormed (plain_form bytes v)
  plain_formed = (takes_whole (many sequence) (plain_form bytes v)).1 (spelts_formed (spell bytes v []) (spelled_lones bytes v ps))
