-- The value calls on corresponding nodes of a text and of the text laid out anew. Assumes nothing.
use mathlib.Core.Path.{◌≡◌, refl, sym, ap, ap₂, subst, ◌∙◌}
use mathlib.Core.Logic.{◌⊎◌, inl, inr}
use mathlib.Core.Bool.{true}
use mathlib.Core.List.{List, [], ◌∷◌, map}
use Prim.Native.Nat.{ℕ, zero, suc, ◌<◌}
use native.Mathlib.Nat.{not-suc-le-zero}
use native.Mathlib.Omega.{arith}
use lib.IntN.{ℤ}
use lib.ListN.{length, length-map}
use Rattle.rules.specs.Plain.{between}
use Rattle.rules.proofs.Every.{every_at}
use Rattle.rules.proofs.Windows.{Moves, alone}
use Rattle.rules.proofs.Windows as Windows
use Rattle.lexicon.specs.Values.{IntegerOf, BitsOf, BlobOf, TextOf}
use Rattle.lexicon.proofs.Unique.{token_forward}
use Rattle.lexicon.proofs.Moved.{text_moved, bits_moved, blob_moved}
use Rattle.lexicon.proofs.Pieces.{token_within}
use Rattle.grammar.specs.Tokens.{Span}
use Rattle.grammar.specs.Tree.{Value}
use Rattle.grammar.specs.Level.{Level}
use Rattle.grammar.specs.Nodes.{Node, NodeKind, kind_number_of, an_integer, a_bits, a_blob, a_text, table, word_at, kind_word, first_word, end_word}
use Rattle.grammar.specs.Leaves.{is_literal_of}
use Rattle.grammar.proofs.NodeLaws.{no_node, node_at, one_kind}
use Rattle.grammar.proofs.Moved.{move_span, move_node, move, table_moved}
use Rattle.reading.specs.declared.Answer.{Answer}
use Rattle.reading.specs.declared.Rules.{Rules}
use Rattle.reading.specs.Buffer.{Fills, no_room, written}
use Rattle.reading.specs.Derived.{Derived}
use Rattle.reading.specs.Tabled.{Holds}
use Rattle.reading.proofs.Tabled.{held_word}
use Rattle.reading.proofs.Derived.{accepted_derived, one_derivation}
use Rattle.reading.proofs.Unique.{one_level}
use Rattle.values.specs.declared.IntegerAnswer.{IntegerAnswer}
use Rattle.values.specs.Integer.{Within, IntegerAnswers}
use Rattle.values.specs.Bytes.{Call, BadPiece, PieceBytes, BytesAnswers}
use Rattle.values.specs.Bytes as Bytes
use Rattle.values.specs.Text.{text_call}
use Rattle.values.specs.Bits.{bits_call}
use Rattle.values.specs.Blob.{blob_call}
use Rattle.values.proofs.BytesDetermined.{Settled}
use Rattle.values.proofs.IntegerDetermined.{one_integer}
use Rattle.values.proofs.Texts.{text_settled}
use Rattle.values.proofs.BitsAndBlobs.{bits_settled, blob_settled}
use Rattle.layout.specs.Relaid.{Relaid}
use Rattle.layout.proofs.Stands as Stands
use Rattle.layout.proofs.Laid.{place, laid_derived, laid_values}
use Rattle.demands.specs.Pieces.{piece, Lone, GivesInteger, GivesBytes, Gives, NodePiece}
use Rattle.demands.specs.Pieces as Given
use Rattle.demands.specs.Requests.{EndAlike, piece_at, SameBytes, SameValues}
use Rattle.demands.proofs.Pieces.{pieces}
use Rattle.demands.proofs.Relaid.{Read}

-- ---- two answers of one call, by the values

same_integer_lem : {text other : List ℕ} {s t : Span} {a b : IntegerAnswer} →
    ((z : ℤ) → IntegerOf text s.first s.end z → IntegerOf other t.first t.end z) → GivesInteger text s a → GivesInteger other t b →
    (a.number ≡ b.number) × (a.value ≡ b.value)
same_integer_lem {other = other} f (Given.accepted {z} x w) (Given.accepted y u) = (refl, one_integer other (f z x) y)
same_integer_lem {other = other} f (Given.accepted {z} x w) (Given.outside y u) = absurd (u (subst Within (one_integer other (f z x) y) w))
same_integer_lem {other = other} f (Given.outside {z} x w) (Given.accepted y u) = absurd (w (subst Within (sym (one_integer other (f z x) y)) u))
same_integer_lem f (Given.outside x w) (Given.outside y u) = (refl, refl)

-- the bytes of a piece that is such a literal, and how they fill the buffer
record Filled (call : Call) (own lent : List ℕ) (a : Answer) (left : List ℕ) : Type 0 where
  bytes : List ℕ
  not_bad : (p : ℕ) → BadPiece call own p → ⊥
  are : PieceBytes call own bytes
  fills : Fills lent (length own) bytes a left

abbrev Told : Answer → Type 0
Told a = (a.number ≡ 0) ⊎ (a.number ≡ 8)

given_told : {text : List ℕ} {s : Span} {call : Call} {lent left : List ℕ} {a : Answer} → GivesBytes text s call lent a left → Told a
given_told (Given.accepted x h) = inl refl
given_told (Given.no_room x h) = inr refl

no_number : {n : ℕ} → (n ≡ 0 → ⊥) → (n ≡ 8 → ⊥) → (n ≡ 0) ⊎ (n ≡ 8) → ⊥
no_number f g (inl e) = f e
no_number f g (inr e) = g e

filled : {call : Call} {rules : Rules} {own lent left : List ℕ} {a : Answer} → BytesAnswers call rules own lent a left → Told a → Filled call own lent a left
filled (Bytes.too_long h) t = absurd (no_number (λ e. omega (arith, e)) (λ e. omega (arith, e)) t)
filled (Bytes.not_utf8 h b) t = absurd (no_number (λ e. omega (arith, e)) (λ e. omega (arith, e)) t)
filled (Bytes.not_the_literal h w n) t = absurd (no_number (λ e. omega (arith, e)) (λ e. omega (arith, e)) t)
filled (Bytes.bad h w x b) t = absurd (no_number (λ e. omega (arith, e)) (λ e. omega (arith, e)) t)
filled (Bytes.no_room {bs} h w x g v o) t = record { bytes = bs; not_bad = g; are = v; fills = no_room o }
filled (Bytes.accepted {bs} h w x g v o) t = record { bytes = bs; not_bad = g; are = v; fills = written o }

same_fills : {lent bs left filled : List ℕ} {m n : ℕ} {a b : Answer} → Fills lent m bs a left → Fills lent n bs b filled → EndAlike a b × (left ≡ filled)
same_fills (no_room h) (no_room g) = ((refl, refl), refl)
same_fills (no_room h) (written g) = absurd (omega (arith, h, g))
same_fills (written h) (no_room g) = absurd (omega (arith, h, g))
same_fills (written h) (written g) = ((refl, refl), refl)

-- the bytes of the one piece are those of the other
same_bytes : (call : Call) → Settled call → (rules : Rules) (own its : List ℕ) →
    ((bs : List ℕ) → PieceBytes call own bs → PieceBytes call its bs) →
    ((lent left : List ℕ) (a : Answer) → BytesAnswers call rules own lent a left → Told a) →
    ((lent left : List ℕ) (a : Answer) → BytesAnswers call rules its lent a left → Told a) → SameBytes call rules own its
same_bytes call settled rules own its f told also lent left other a b x y =
    let u = filled x (told lent left a x) in
    let v = filled y (also lent other b y) in
    let e = settled.determined its v.not_bad (f u.bytes u.are) v.are in
    same_fills (subst (λ (bs : List ℕ). Fills lent (length own) bs a left) e u.fills) v.fills

-- ---- a node and the one that stands for it

moved_at : (g : ℕ → ℕ) (ns : List Node) (i : ℕ) → i < length ns → node_at (map (move_node g) ns) i ≡ move_node g (node_at ns i)
moved_at g [] i h = absurd (not-suc-le-zero h)
moved_at g (n ∷ ns) zero h = refl
moved_at g (n ∷ ns) (suc i) h = moved_at g ns i (omega (arith, h))

module _ (rules : Rules) (text other : List ℕ) (g : ℕ → ℕ) (n : Node) (own : NodePiece rules text n) (its : NodePiece rules other (move_node g n))
    (same : Stands.IfThere text other g n) where
  abbrev here : List ℕ
  here = piece text n.at

  abbrev there : List ℕ
  there = piece other (move_span g n.at)

  integers_same : n.kind ≡ an_integer → (a b : IntegerAnswer) → IntegerAnswers rules here a → IntegerAnswers rules there b → (a.number ≡ b.number) × (a.value ≡ b.value)
  integers_same e a b x y = same_integer_lem (same (ap is_literal_of e)).integers (own.integer e a x) (its.integer e b y)

  -- what moves with its bytes, from the piece to the text, to the other text and to its piece
  module _ (mine : Lone rules text n) (its_own : Lone rules other (move_node g n)) where
    carried : (F : List ℕ → ℕ → ℕ → Type 0) → Moves F → (F text n.at.first n.at.end → F other (g n.at.first) (g n.at.end)) →
        F here 0 (length here) → F there 0 (length there)
    carried F m f x =
        alone other (omega (arith, token_forward other its_own.there)) (token_within other its_own.kind its_own.there) F m
        (f (Windows.there text (omega (arith, token_forward text mine.there)) (token_within text mine.kind mine.there) F m x))

  -- of a literal whose bytes a call hands back
  bytes_same : (call : Call) → Settled call → is_literal_of n.kind ≡ true → Gives call rules text n → Gives call rules other (move_node g n) →
      (Lone rules text n → Lone rules other (move_node g n) → Stands.ValuesThere text other g n → (bs : List ℕ) → PieceBytes call here bs → PieceBytes call there bs) →
      SameBytes call rules here there
  bytes_same call settled e x y f =
      same_bytes call settled rules here there (f (own.literal e) (its.literal e) (same e)) (λ lent left a u. given_told (x lent a left u)) (λ lent left a u. given_told (y lent a left u))

  texts_same : n.kind ≡ a_text → SameBytes text_call rules here there
  texts_same e =
      bytes_same text_call text_settled (ap is_literal_of e) (own.text e) (its.text e)
      (λ p q u bs y.
      record {
        characters = y.characters;
        are = carried p q (λ (l : List ℕ) (i j : ℕ). TextOf l i j y.characters) (λ a b p q n w i j x h k. text_moved a b p q n w x h k) (u.texts y.characters) y.are;
        bytes_are = y.bytes_are;
      })

  bits_same : n.kind ≡ a_bits → SameBytes bits_call rules here there
  bits_same e =
      bytes_same bits_call bits_settled (ap is_literal_of e) (own.bits e) (its.bits e)
      (λ p q u bs y. carried p q (λ (l : List ℕ) (i j : ℕ). BitsOf l i j bs) (λ a b p q n w i j x h k. bits_moved a b p q n w x h k) (u.bits bs) y)

  blobs_same : n.kind ≡ a_blob → SameBytes blob_call rules here there
  blobs_same e =
      bytes_same blob_call blob_settled (ap is_literal_of e) (own.blob e) (its.blob e)
      (λ p q u bs y. carried p q (λ (l : List ℕ) (i j : ℕ). BlobOf l i j bs) (λ a b p q n w i j x h k. blob_moved a b p q n w x h k) (u.blobs bs) y)

-- ---- the nodes of two readings

module _ (rules : Rules) {text other : List ℕ} (x : Relaid text other) {level : ℕ} {v w : Value} (y : Read rules text level v) (z : Read rules other level w) where
  derived : Derived rules.limits y.of text v
  derived = accepted_derived rules.limits text y.accepts

  its_derived : Derived rules.limits z.of other w
  its_derived = accepted_derived rules.limits other z.accepts

  -- the other's derivation is this one, moved
  moved_tree : w ≡ move (place x) v
  moved_tree =
      one_derivation rules.limits other its_derived
      (subst (λ (l : Level). Derived rules.limits l other (move (place x) v)) (one_level y.level_is z.level_is) (laid_derived x rules.limits y.of v derived))

  its_table : table w ≡ map (move_node (place x)) (table v)
  its_table = ap table moved_tree ∙ table_moved (place x) v

  module _ (i : ℕ) (h : i < length (table v)) where
    its_node : node_at (table w) i ≡ move_node (place x) (node_at (table v) i)
    its_node = ap (λ (ns : List Node). node_at ns i) its_table ∙ moved_at (place x) (table v) i h

    its_index : i < length (table w)
    its_index = omega (arith, h, ap length its_table, length-map (table v) (move_node (place x)))

    own_piece : NodePiece rules text (node_at (table v) i)
    own_piece = every_at (pieces rules text y.short y.formed derived) no_node i h

    its_piece : NodePiece rules other (move_node (place x) (node_at (table v) i))
    its_piece = subst (NodePiece rules other) its_node (every_at (pieces rules other z.short z.formed its_derived) no_node i its_index)

    same : Stands.IfThere text other (place x) (node_at (table v) i)
    same = every_at (laid_values x rules.limits y.of v derived) no_node i h

    module _ (left filled : List ℕ) (holds : Holds left v) (its-holds : Holds filled w) where
      kind_told : {k : NodeKind} → word_at left i kind_word ≡ kind_number_of k → (node_at (table v) i).kind ≡ k
      kind_told e = one_kind (node_at (table v) i).kind _ (sym (held_word left v holds i kind_word h (omega arith)) ∙ e)

      here_is : piece_at text left i ≡ piece text (node_at (table v) i).at
      here_is = ap₂ (between text) (held_word left v holds i first_word h (omega arith)) (held_word left v holds i end_word h (omega arith))

      there_is : piece_at other filled i ≡ piece other (move_span (place x) (node_at (table v) i).at)
      there_is =
          ap₂ (between other) (held_word filled w its-holds i first_word its_index (omega arith)) (held_word filled w its-holds i end_word its_index (omega arith))
          ∙ ap (λ (n : Node). piece other n.at) its_node

      pub node_values : SameValues rules text left other filled i
      node_values =
          let n = node_at (table v) i in
          let g = place x in
          let bytes : (call : Call) → SameBytes call rules (piece text n.at) (piece other (move_span g n.at)) → SameBytes call rules (piece_at text left i) (piece_at other filled i) =
          λ call s. subst (λ (l : List ℕ). SameBytes call rules l (piece_at other filled i)) (sym here_is) (subst (SameBytes call rules (piece text n.at)) (sym there_is) s) in
          record {
            integer = λ e a b u t. integers_same rules text other g n own_piece its_piece same (kind_told e) a b
                (subst (λ (l : List ℕ). IntegerAnswers rules l a) here_is u) (subst (λ (l : List ℕ). IntegerAnswers rules l b) there_is t);
            text_bytes = λ e. bytes text_call (texts_same rules text other g n own_piece its_piece same (kind_told e));
            bits = λ e. bytes bits_call (bits_same rules text other g n own_piece its_piece same (kind_told e));
            blob_bytes = λ e. bytes blob_call (blobs_same rules text other g n own_piece its_piece same (kind_told e));
          }
