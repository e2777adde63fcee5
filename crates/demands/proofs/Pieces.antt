-- The value calls on the nodes of an accepted text: a node's piece is its literal, and the answer is what the grammar gives there.
-- Assumes nothing.
use mathlib.Core.Path.{◌≡◌, refl, sym, ap, subst}
use mathlib.Core.Bool.{true}
use mathlib.Core.List.{List, [], ◌++◌}
use Prim.Native.Nat.{ℕ, ◌-◌, ◌≤◌}
use native.Mathlib.Omega.{arith}
use lib.ListN.{length, drop}
use Rattle.rules.specs.Every.{Every, none, also}
use Rattle.rules.specs.Rule.{Takes, left, right}
use Rattle.rules.proofs.Every.{every_map}
use Rattle.rules.proofs.Windows.{piece_length}
use Rattle.lexicon.specs.declared.Sign.{Sign}
use Rattle.lexicon.specs.declared.Sign.TheVariants.{RoundOpen, RoundClose, CurlyOpen, CurlyClose, SquareOpen, SquareClose, Comma, ArrowRight, ArrowLeft, Dots, Star}
use Rattle.lexicon.specs.declared.Form.TheVariants.{Quoted, Word, HeadWord, CodePoint}
use Rattle.lexicon.specs.declared.Kind.{Kind}
use Rattle.lexicon.specs.Utf8.{WellFormed}
use Rattle.lexicon.specs.Literals.{integer}
use Rattle.lexicon.specs.Token.{Told, Is, Bad}
use Rattle.lexicon.proofs.Determined.{formed_or_bad}
use Rattle.lexicon.proofs.Unique.{token_forward}
use Rattle.lexicon.proofs.Pieces.{token_within, token_formed, token_alone, bad_there, integer_there, text_there, bits_there, blob_there}
use Rattle.grammar.specs.Tokens.{Tok, Class, atom, names, round, curly, square, mark, later, class_sign, class_kind}
use Rattle.grammar.specs.Tokens as Tokens
use Rattle.grammar.specs.Tree.{Value}
use Rattle.grammar.specs.Yield.{yield_value}
use Rattle.grammar.specs.Level.{Level}
use Rattle.grammar.specs.Nodes.{NodeKind, Node, an_ignorance, a_boolean, an_integer, a_fraction, a_bits, a_blob, a_text, a_nesting, atom_kind}
use Rattle.grammar.specs.Nodes.{a_pair, a_tuple, a_lot, an_array, a_set, a_bag, an_interval}
use Rattle.grammar.specs.Leaves.{Written, is_literal_of}
use Rattle.grammar.specs.Leaves as Leaves
use Rattle.grammar.proofs.Nodes.{TokenOf, IfLiteral, table_leaves}
use Rattle.reading.specs.declared.Answer.{Answer}
use Rattle.reading.specs.declared.Limits.{Limits}
use Rattle.reading.specs.declared.Rules.{Rules}
use Rattle.reading.specs.Answers.{answer, Answers}
use Rattle.reading.specs.Tokens.{Follow, nothing, next}
use Rattle.reading.proofs.Rows.{append}
use Rattle.values.specs.declared.IntegerAnswer.{IntegerAnswer}
use Rattle.values.specs.Integer.{IntegerAnswers}
use Rattle.values.specs.Integer as Integer
use Rattle.values.specs.Bytes.{Call, PieceBytes, BytesAnswers}
use Rattle.values.specs.Bytes as Bytes
use Rattle.values.specs.Text.{text_call}
use Rattle.values.specs.Bits.{bits_call}
use Rattle.values.specs.Blob.{blob_call}
use Rattle.values.proofs.Shapes.{quoted_good, word_good, code_good}
use Rattle.reading.specs.Derived.{Derived}
use Rattle.demands.specs.Derived.{Shows}
use Rattle.demands.proofs.Derived.{decides}
use Rattle.demands.specs.Pieces.{piece, Lone, GivesInteger, GivesBytes, Gives, NodePiece, Pieces}

module _ (bytes : List ℕ) where
  -- ---- every token of a derivation stands in the text, and its value is not bad

  record Fine (t : Tok) : Type 0 where
    kind : Kind
    class_is : class_kind kind ≡ t.class
    is : Is bytes kind t.at.first t.at.end
    sound : Bad bytes kind t.at.first t.at.end → ⊥

  module _ {limits : Limits} {l : Level} {v : Value} (d : Derived limits l bytes v) where
    fine : {p q : ℕ} {xs ts : List Tok} → Follow bytes d.start xs p → Follow bytes p ts q → Every Fine ts
    fine f nothing = none
    fine f (next {t = t} c g) =
        also (record { kind = t.kind; class_is = refl; is = c.2; sound = d.sound f c }) (fine (append bytes f (next c nothing)) g)

    all_fine : Every Fine (yield_value v [])
    all_fine = fine nothing d.row

  -- ---- a node's piece is its literal

  module _ (rules : Rules) (short : length bytes ≤ rules.text) (formed : WellFormed bytes) where
    lone : (n : Node) → TokenOf Fine n → Lone rules bytes n
    lone n t =
        let k = t.holds.kind in
        let is = t.holds.is in
        let within = token_within bytes k is in
        record {
          kind = k;
          written = subst (Written n.kind) (sym t.holds.class_is) t.written;
          there = is;
          there_sound = t.holds.sound;
          alone = token_alone bytes k is;
          alone_sound = λ b. t.holds.sound (bad_there bytes k is b);
          formed = token_formed bytes k is formed;
          short = omega (arith, short, piece_length bytes {i = n.at.first} {j = n.at.end} (omega (arith, token_forward bytes is)) within, within);
        }

-- ---- the tokens of a node's kind

module _ (text : List ℕ) (i j : ℕ) where
  -- a literal of a call, and its value is not bad
  record Good (call : Call) : Type 0 where
    takes : Takes text call.literal i j
    good : (p : ℕ) → call.Bad text i j p → ⊥

  -- what stands from i to j for a node of a kind that a value call takes
  abbrev Exact : NodeKind → Type 0
  Exact an_integer = Takes text integer i j
  Exact a_bits = Good bits_call
  Exact a_blob = Good blob_call
  Exact a_text = Good text_call
  Exact an_ignorance = Unit {0}
  Exact a_boolean = Unit {0}
  Exact a_fraction = Unit {0}
  Exact a_nesting = Unit {0}
  Exact a_pair = Unit {0}
  Exact a_tuple = Unit {0}
  Exact a_lot = Unit {0}
  Exact an_array = Unit {0}
  Exact a_set = Unit {0}
  Exact a_bag = Unit {0}
  Exact an_interval = Unit {0}

  -- the same of a token of a class
  abbrev ExactClass : Class → Type 0
  ExactClass (atom a) = Exact (atom_kind a)
  ExactClass (Tokens.text w) = Good text_call
  ExactClass names = Unit {0}
  ExactClass round = Unit {0}
  ExactClass curly = Unit {0}
  ExactClass square = Unit {0}
  ExactClass (mark m) = Unit {0}
  ExactClass later = Unit {0}

  of_written : {n : NodeKind} {c : Class} → Written n c → ExactClass c → Exact n
  of_written (Leaves.literal a) x = x
  of_written (Leaves.text w) x = x

  of_sign : (s : Sign) → ExactClass (class_sign s)
  of_sign RoundOpen = tt
  of_sign RoundClose = tt
  of_sign CurlyOpen = tt
  of_sign CurlyClose = tt
  of_sign SquareOpen = tt
  of_sign SquareClose = tt
  of_sign Comma = tt
  of_sign ArrowRight = tt
  of_sign ArrowLeft = tt
  of_sign Dots = tt
  of_sign (Star low high) = tt

  of_token_lem : (k : Kind) → Told text k i j → (Bad text k i j → ⊥) → ExactClass (class_kind k)
  of_token_lem Kind.Ignorance t n = tt
  of_token_lem (Kind.Boolean b) t n = tt
  of_token_lem (Kind.Integer signed) t n = t.0.takes
  of_token_lem Kind.Fraction t n = tt
  of_token_lem Kind.Bits t n = record { takes = t.takes; good = λ p b. b }
  of_token_lem Kind.Blob t n = record { takes = t.takes; good = λ p b. n b.1 }
  of_token_lem (Kind.Text Quoted) t n = record { takes = left t.takes; good = quoted_good text t.takes n }
  of_token_lem (Kind.Text Word) t n = let x = t.0.takes in record { takes = right (left x); good = word_good text x }
  of_token_lem (Kind.Text (HeadWord h)) t n = let x = t.0.takes in record { takes = right (left x); good = word_good text x }
  of_token_lem (Kind.Text CodePoint) t n = record { takes = right (right t.takes); good = code_good text t.takes n }
  of_token_lem Kind.Later t n = tt
  of_token_lem (Kind.Symbol s) t n = of_sign s
  of_token_lem Kind.Colon t n = tt
  of_token_lem Kind.TwoColons t n = tt

-- ---- the calls

module _ (rules : Rules) (bytes : List ℕ) (n : Node) (l : Lone rules bytes n) where
  abbrev own : List ℕ
  own = piece bytes n.at

  size : length own ≡ n.at.end - n.at.first
  size = piece_length bytes (omega (arith, token_forward bytes l.there)) (token_within bytes l.kind l.there)

  -- the piece is exactly such a literal
  exact : {k : NodeKind} → n.kind ≡ k → Exact own 0 (length own) k
  exact e = subst (Exact own 0 (length own)) e (of_written own 0 (length own) l.written (of_token_lem own 0 (length own) l.kind l.alone.told l.alone_sound))

  integer_given : n.kind ≡ an_integer → (r : IntegerAnswer) → IntegerAnswers rules own r → GivesInteger bytes n.at r
  integer_given e r a = go a
    where
      go : {r : IntegerAnswer} → IntegerAnswers rules own r → GivesInteger bytes n.at r
      go (Integer.too_long h) = absurd (omega (arith, h, l.short))
      go (Integer.not_utf8 h b) = absurd (formed_or_bad own l.formed b)
      go (Integer.not_integer h w x) = absurd (x (exact e))
      go (Integer.outside h w x v o) = GivesInteger.outside (integer_there bytes _ l.there v) o
      go (Integer.accepted {z} h w x v o) =
          subst (λ (m : ℕ). GivesInteger bytes n.at (Integer.answer 0 m z)) (sym size) (GivesInteger.accepted (integer_there bytes _ l.there v) o)

  -- one law for the calls that hand back bytes: those of the piece are also the text's there
  module _ (call : Call) (x : Good own 0 (length own) call) (bytes-there : (bs : List ℕ) → PieceBytes call own bs → call.Bytes bytes n.at.first n.at.end bs) where
    bytes_given : Gives call rules bytes n
    bytes_given lent r t a = go a
      where
        go : {r : Answer} {t : List ℕ} → BytesAnswers call rules own lent r t → GivesBytes bytes n.at call lent r t
        go (Bytes.too_long h) = absurd (omega (arith, h, l.short))
        go (Bytes.not_utf8 h b) = absurd (formed_or_bad own l.formed b)
        go (Bytes.not_the_literal h w e) = absurd (e x.takes)
        go (Bytes.bad {p} h w e b) = absurd (x.good p b)
        go (Bytes.no_room {bs} h w e g v o) =
            subst (λ (m : ℕ). GivesBytes bytes n.at call lent (answer 8 m (length bs)) lent) (sym size) (GivesBytes.no_room (bytes-there bs v) o)
        go (Bytes.accepted {bs} h w e g v o) =
            subst (λ (m : ℕ). GivesBytes bytes n.at call lent (answer 0 m (length bs)) (bs ++ drop (length bs) lent)) (sym size)
            (GivesBytes.accepted (bytes-there bs v) o)

  text_given : n.kind ≡ a_text → Gives text_call rules bytes n
  text_given e =
      bytes_given text_call (exact e)
      (λ bs y. record { characters = y.characters; are = text_there bytes _ l.there y.are; bytes_are = y.bytes_are })

  bits_given : n.kind ≡ a_bits → Gives bits_call rules bytes n
  bits_given e = bytes_given bits_call (exact e) (λ bs y. bits_there bytes _ l.there y)

  blob_given : n.kind ≡ a_blob → Gives blob_call rules bytes n
  blob_given e = bytes_given blob_call (exact e) (λ bs y. blob_there bytes _ l.there y)

-- ---- the nodes of an accepted text

module _ (rules : Rules) (bytes : List ℕ) where
  node_piece : length bytes ≤ rules.text → WellFormed bytes → (n : Node) → IfLiteral (Fine bytes) n → NodePiece rules bytes n
  node_piece h w n f =
      let own : is_literal_of n.kind ≡ true → Lone rules bytes n = λ e. lone bytes rules h w n (f e) in
      record {
        literal = own;
        integer = λ e. integer_given rules bytes n (own (ap is_literal_of e)) e;
        text = λ e. text_given rules bytes n (own (ap is_literal_of e)) e;
        bits = λ e. bits_given rules bytes n (own (ap is_literal_of e)) e;
        blob = λ e. blob_given rules bytes n (own (ap is_literal_of e)) e;
      }

  pub pieces : {l : Level} {v : Value} → length bytes ≤ rules.text → WellFormed bytes → Derived rules.limits l bytes v → Pieces rules bytes v
  pieces {v = v} h w d = every_map (node_piece h w) (table_leaves (Fine bytes) v (all_fine bytes d))

  -- a reading that answers 0: the words of the table are those of such nodes
  pub answered_pieces : {lent : List ℕ} {number : ℕ} {r : Answer} {t : List ℕ} → Answers rules bytes lent number r t → r.number ≡ 0 →
      (v : Value) × Shows rules bytes lent v r t × Pieces rules bytes v
  answered_pieces {lent} {number} a e =
      let d = decides rules bytes lent number a in
      let o = d.only e in
      (o.0, d.whenever o.1, pieces o.1.short o.1.formed o.1.derived)
