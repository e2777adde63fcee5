-- The moves where no value is wanted or was just read: behind a head, a count, two commas, an Interval's bounds. Assumes nothing.
use mathlib.Core.Path.{◌≡◌, refl, sym, ap, ◌∙◌}
use mathlib.Core.Bool.{Bool, true, false}
use mathlib.Core.List.{List, [], ◌++◌, append-nil, append_assoc}
use mathlib.Core.Option.{Option, none, some}
use Prim.Native.Nat.{ℕ, ◌+◌}
use lib.ListN.{length}
use Rattle.lexicon.specs.declared.Sign.{Sign}
use Rattle.lexicon.specs.declared.Kind.{Kind}
use Rattle.grammar.specs.Tokens
use Rattle.grammar.specs.Tokens.{Span, tok, Atom, Wording, class_sign, class_kind}
use Rattle.grammar.specs.Tree
use Rattle.grammar.specs.Tree.{Collection, array, set, bag, Measure, by_number, by_truth, Count, Style, copy, Value, Item, Bounds, Listing}
use Rattle.grammar.specs.Level.{Level}
use Rattle.grammar.specs.Nodes as Nodes
use Rattle.grammar.specs.Nodes.{Node, nodes, nodes_count, nodes_item, nodes_listing, nodes_bounds, leaf, branch, over, atom_kind, atom_detail, bounds_detail, collection_kind}
use Rattle.grammar.proofs.Frames.{Front, start, row, Curly, counted_curly, CurlyFrame, Frame, Stack, Closing, two_commas, headed, bounded, Config, want_curly, want_count, have_item, want_close, next_item, last_item}
use Rattle.grammar.proofs.Machine.{step, count_of, counted}
use Rattle.moves.specs.declared.NodeKind.{NodeKind}
use Rattle.moves.specs.declared.Forms.{Forms}
use Rattle.moves.specs.declared.Role.TheVariants as Role
use Rattle.moves.specs.declared.Move.{Move}
use Rattle.moves.proofs.Model as Model
use Rattle.moves.specs.Means.{node_kind_of, collection_style, style_of, mode_of, fronted, then}
use Rattle.moves.specs.Effects.{counting, Does}
use Rattle.moves.proofs.Members.{last_listed, next_listed}
use Rattle.moves.proofs.Steps.{Wants, wrong, wanting, onward, closes, shuts}

module _ (l : Level) where
  -- the tokens that are no bracket, comma, arrow or star cannot be taken
  record Deaf (c : Config) (s : Span) : Type 0 where
    atoms : (a : Atom) → step l c (tok (Tokens.atom a) s) ≡ none
    texts : (w : Wording) → step l c (tok (Tokens.text w) s) ≡ none
    later : step l c (tok Tokens.later s) ≡ none
    colon : step l c (tok (Tokens.mark Tokens.colon) s) ≡ none
    names : step l c (tok Tokens.names s) ≡ none

  does_only : (c : Config) (s : Span) → (Wants c → ⊥) → Deaf c s → (f : Sign → Move) → ((y : Sign) → Does l c (tok (class_sign y) s) (f y)) → (k : Kind) →
      Does l c (tok (class_kind k) s) (Model.only f k)
  does_only c s n d f g Kind.Ignorance = wrong l c _ s n (d.atoms _)
  does_only c s n d f g (Kind.Boolean b) = wrong l c _ s n (d.atoms _)
  does_only c s n d f g (Kind.Integer signed) = wrong l c _ s n (d.atoms _)
  does_only c s n d f g Kind.Fraction = wrong l c _ s n (d.atoms _)
  does_only c s n d f g Kind.Bits = wrong l c _ s n (d.atoms _)
  does_only c s n d f g Kind.Blob = wrong l c _ s n (d.atoms _)
  does_only c s n d f g (Kind.Text form) = wrong l c _ s n (d.texts _)
  does_only c s n d f g Kind.Later = wrong l c _ s n d.later
  does_only c s n d f g (Kind.Symbol y) = g y
  does_only c s n d f g Kind.Colon = wrong l c _ s n d.colon
  does_only c s n d f g Kind.TwoColons = wrong l c _ s n d.names

  -- ---- `{` behind a head

  does_head_sign : (o : Span) (h : Collection) (t k : Span) (K : Stack) (s : Span) (y : Sign) →
      Does l (want_curly o h t k K) (tok (class_sign y) s) (Model.head_sign (collection_style h) y)
  does_head_sign o h t k K s Sign.RoundOpen = wrong l _ _ s (λ e. e) refl
  does_head_sign o h t k K s Sign.RoundClose = wrong l _ _ s (λ e. e) refl
  does_head_sign o h t k K s Sign.CurlyOpen = (refl, wanting l _ _ (Frame.in_curly (CurlyFrame.in_curly (counted_curly o h t k s) start)) _ refl refl refl λ i. refl)
  does_head_sign o h t k K s Sign.CurlyClose = wrong l _ _ s (λ e. e) refl
  does_head_sign o h t k K s Sign.SquareOpen = wrong l _ _ s (λ e. e) refl
  does_head_sign o h t k K s Sign.SquareClose = wrong l _ _ s (λ e. e) refl
  does_head_sign o h t k K s Sign.Comma = wrong l _ _ s (λ e. e) refl
  does_head_sign o h t k K s Sign.ArrowRight = wrong l _ _ s (λ e. e) refl
  does_head_sign o h t k K s Sign.ArrowLeft = wrong l _ _ s (λ e. e) refl
  does_head_sign o h t k K s Sign.Dots = wrong l _ _ s (λ e. e) refl
  does_head_sign o h t k K s (Sign.Star a b) = wrong l _ _ s (λ e. e) refl

  pub does_head : (o : Span) (h : Collection) (t k : Span) (K : Stack) (s : Span) (y : Kind) →
      Does l (want_curly o h t k K) (tok (class_kind y) s) (Model.only (Model.head_sign (collection_style h)) y)
  does_head o h t k K s y = does_only _ s (λ e. e)
      (record { atoms = λ a. refl; texts = λ w. refl; later = refl; colon = refl; names = refl }) _ (does_head_sign o h t k K s) y

  -- ---- behind a count

  does_counted_sign : {z : Style} (c : Curly z) (f : Front z) (t : Item z) (K : Stack) (s : Span) (y : Sign) →
      Does l (have_item c f t K) (tok (class_sign y) s) (Model.counted_sign (style_of c) y)
  does_counted_sign c f t K s Sign.RoundOpen = wrong l _ _ s (λ e. e) refl
  does_counted_sign c f t K s Sign.RoundClose = wrong l _ _ s (λ e. e) refl
  does_counted_sign c f t K s Sign.CurlyOpen = wrong l _ _ s (λ e. e) refl
  does_counted_sign c f t K s Sign.CurlyClose =
      shuts l c _ s Role.Root (last_item f t) (λ e. refl) refl refl λ i. last_listed f t i ∙ sym (append-nil (then (fronted f i) i (nodes_item t i)))
  does_counted_sign c f t K s Sign.SquareOpen = wrong l _ _ s (λ e. e) refl
  does_counted_sign c f t K s Sign.SquareClose = wrong l _ _ s (λ e. e) refl
  does_counted_sign c f t K s Sign.Comma =
      onward l _ Tokens.comma s Role.Root (Frame.in_curly (CurlyFrame.in_curly c (row (next_item f t s)))) refl (λ e. refl) refl refl refl
      λ i. next_listed f t s i ∙ sym (append-nil (then (fronted f i) i (nodes_item t i)))
  does_counted_sign c f t K s Sign.ArrowRight = wrong l _ _ s (λ e. e) refl
  does_counted_sign c f t K s Sign.ArrowLeft = wrong l _ _ s (λ e. e) refl
  does_counted_sign c f t K s Sign.Dots = wrong l _ _ s (λ e. e) refl
  does_counted_sign c f t K s (Sign.Star a b) = wrong l _ _ s (λ e. e) refl

  pub does_counted : {z : Style} (c : Curly z) (f : Front z) (t : Item z) (K : Stack) (s : Span) (y : Kind) →
      Does l (have_item c f t K) (tok (class_kind y) s) (Model.only (Model.counted_sign (style_of c)) y)
  does_counted c f t K s y = does_only _ s (λ e. e)
      (record { atoms = λ a. refl; texts = λ w. refl; later = refl; colon = refl; names = refl }) _ (does_counted_sign c f t K s) y

  -- ---- the closing brackets

  does_two_commas_sign : {z : Style} (c : Curly z) (d e : Span) (K : Stack) (s : Span) (y : Sign) →
      Does l (want_close (two_commas c d e) K) (tok (class_sign y) s) (Model.two_commas_sign (style_of c) y)
  does_two_commas_sign c d e K s Sign.RoundOpen = wrong l _ _ s (λ e. e) refl
  does_two_commas_sign c d e K s Sign.RoundClose = wrong l _ _ s (λ e. e) refl
  does_two_commas_sign c d e K s Sign.CurlyOpen = wrong l _ _ s (λ e. e) refl
  does_two_commas_sign c d e K s Sign.CurlyClose = shuts l c _ s Role.Root (Tree.two_commas d e) (λ e. refl) refl refl λ i. refl
  does_two_commas_sign c d e K s Sign.SquareOpen = wrong l _ _ s (λ e. e) refl
  does_two_commas_sign c d e K s Sign.SquareClose = wrong l _ _ s (λ e. e) refl
  does_two_commas_sign c d e K s Sign.Comma = wrong l _ _ s (λ e. e) refl
  does_two_commas_sign c d e K s Sign.ArrowRight = wrong l _ _ s (λ e. e) refl
  does_two_commas_sign c d e K s Sign.ArrowLeft = wrong l _ _ s (λ e. e) refl
  does_two_commas_sign c d e K s Sign.Dots = wrong l _ _ s (λ e. e) refl
  does_two_commas_sign c d e K s (Sign.Star a b) = wrong l _ _ s (λ e. e) refl

  -- `)` behind a collection's `}`
  close_headed : (o : Span) (h : Collection) (t k b : Span) (i : Listing (copy (Tree.counted_by h))) (e : Span) (K : Stack) (s : Span) →
      (n : NodeKind) → collection_kind h ≡ node_kind_of n →
      Does l (want_close (headed o h t k b i e) K) (tok (Tokens.mark Tokens.round_close) s) (Move.Close n 0 Role.Root)
  close_headed o h t k b i e K s n g =
      closes l _ Tokens.round_close s Role.Root (Tree.plain (Tree.counted o h t k b i e s)) n 0 refl (λ e. refl) refl refl
      λ p q j x. branch (g x) (over o s) p q 0 (sym (append-nil (nodes_listing i j (j + 1))) x)

  does_headed_close : (o : Span) (h : Collection) (t k b : Span) (i : Listing (copy (Tree.counted_by h))) (e : Span) (K : Stack) (s : Span) →
      Does l (want_close (headed o h t k b i e) K) (tok (Tokens.mark Tokens.round_close) s) (Move.Close (Model.style_kind (collection_style h)) 0 Role.Root)
  does_headed_close o array t k b i e K s = close_headed o array t k b i e K s NodeKind.Array refl
  does_headed_close o set t k b i e K s = close_headed o set t k b i e K s NodeKind.Set refl
  does_headed_close o bag t k b i e K s = close_headed o bag t k b i e K s NodeKind.Bag refl

  does_headed_sign : (o : Span) (h : Collection) (t k b : Span) (i : Listing (copy (Tree.counted_by h))) (e : Span) (K : Stack) (s : Span) (y : Sign) →
      Does l (want_close (headed o h t k b i e) K) (tok (class_sign y) s) (Model.headed_sign (collection_style h) y)
  does_headed_sign o h t k b i e K s Sign.RoundOpen = wrong l _ _ s (λ e. e) refl
  does_headed_sign o h t k b i e K s Sign.RoundClose = does_headed_close o h t k b i e K s
  does_headed_sign o h t k b i e K s Sign.CurlyOpen = wrong l _ _ s (λ e. e) refl
  does_headed_sign o h t k b i e K s Sign.CurlyClose = wrong l _ _ s (λ e. e) refl
  does_headed_sign o h t k b i e K s Sign.SquareOpen = wrong l _ _ s (λ e. e) refl
  does_headed_sign o h t k b i e K s Sign.SquareClose = wrong l _ _ s (λ e. e) refl
  does_headed_sign o h t k b i e K s Sign.Comma = wrong l _ _ s (λ e. e) refl
  does_headed_sign o h t k b i e K s Sign.ArrowRight = wrong l _ _ s (λ e. e) refl
  does_headed_sign o h t k b i e K s Sign.ArrowLeft = wrong l _ _ s (λ e. e) refl
  does_headed_sign o h t k b i e K s Sign.Dots = wrong l _ _ s (λ e. e) refl
  does_headed_sign o h t k b i e K s (Sign.Star x z) = wrong l _ _ s (λ e. e) refl

  does_bounded_sign : (o : Span) (b : Bounds) (K : Stack) (s : Span) (y : Sign) →
      Does l (want_close (bounded o b) K) (tok (class_sign y) s) (Model.bounded_sign (bounds_detail b) y)
  does_bounded_sign o b K s Sign.RoundOpen = wrong l _ _ s (λ e. e) refl
  does_bounded_sign o b K s Sign.RoundClose = wrong l _ _ s (λ e. e) refl
  does_bounded_sign o b K s Sign.CurlyOpen = wrong l _ _ s (λ e. e) refl
  does_bounded_sign o b K s Sign.CurlyClose = wrong l _ _ s (λ e. e) refl
  does_bounded_sign o b K s Sign.SquareOpen = wrong l _ _ s (λ e. e) refl
  does_bounded_sign o b K s Sign.SquareClose =
      closes l _ Tokens.square_close s Role.Root (Tree.plain (Tree.interval o b s)) NodeKind.Interval (bounds_detail b) refl (λ e. refl) refl refl
      λ p q i x. branch Nodes.an_interval (over o s) p q (bounds_detail b) (sym (append-nil (nodes_bounds b i (i + 1))) x)
  does_bounded_sign o b K s Sign.Comma = wrong l _ _ s (λ e. e) refl
  does_bounded_sign o b K s Sign.ArrowRight = wrong l _ _ s (λ e. e) refl
  does_bounded_sign o b K s Sign.ArrowLeft = wrong l _ _ s (λ e. e) refl
  does_bounded_sign o b K s Sign.Dots = wrong l _ _ s (λ e. e) refl
  does_bounded_sign o b K s (Sign.Star x z) = wrong l _ _ s (λ e. e) refl

  deaf_closing : (x : Closing) (K : Stack) (s : Span) → Deaf (want_close x K) s
  deaf_closing x K s = record { atoms = λ a. refl; texts = λ w. refl; later = refl; colon = refl; names = refl }

  pub does_closing : (forms : Forms) (x : Closing) (K : Stack) (s : Span) (y : Kind) →
      Does l (want_close x K) (tok (class_kind y) s) (Model.move forms (mode_of (want_close x K)) y)
  does_closing forms (two_commas c d e) K s y = does_only _ s (λ e. e) (deaf_closing _ K s) _ (does_two_commas_sign c d e K s) y
  does_closing forms (headed o h t k b i e) K s y = does_only _ s (λ e. e) (deaf_closing _ K s) _ (does_headed_sign o h t k b i e K s) y
  does_closing forms (bounded o b) K s y = does_only _ s (λ e. e) (deaf_closing _ K s) _ (does_bounded_sign o b K s) y

  -- ---- a count

  -- the count's node behind those of its value
  takes_count : {u : Measure} (c : Curly (copy u)) (f : Front (copy u)) (v : Value) (k : Span) (K : Stack) (s : Span) (a : Atom) (n : Count u) →
      counting a ≡ true → count_of u a s ≡ some n → ((i : ℕ) → nodes_count n i ≡ leaf (atom_kind a) s i Nodes.count (atom_detail a)) →
      Does l (want_count c f v k K) (tok (Tokens.atom a) s) (Move.Count (style_of c))
  takes_count c f v k K s a n b e g =
      record {
        atom = a;
        class_is = refl;
        is_count = b;
        leads = record {
          to = have_item c f (Tree.times v k n) K;
          steps = ap (λ (x : Option (Count _)). counted x c f v k K) e;
          within = refl;
          mode_is = refl;
          stack_is = refl;
          open_is = refl;
          no_value = refl;
          no_head = refl;
          no_names = refl;
          no_first = refl;
          members = λ i. behind (fronted f i) i (λ x. nodes v i Nodes.value x) _ _ (g i);
        };
      }
    where
      behind : (ns : List Node) (i : ℕ) (h : ℕ → List Node) (m d : List Node) → m ≡ d → then ns i (λ x. h x ++ m) ++ [] ≡ (then ns i h ++ []) ++ d
      behind ns i h m d e =
          append-nil _
          ∙ sym (append_assoc ns (h (i + 1 + length ns)) m)
          ∙ ap (λ (x : List Node). x ++ m) (sym (append-nil (then ns i h)))
          ∙ ap (λ (x : List Node). (then ns i h ++ []) ++ x) e

  -- no count for any collection
  no_count : (u : Measure) (a : Atom) (s : Span) → count_of by_number a s ≡ none → count_of by_truth a s ≡ none → count_of u a s ≡ none
  no_count by_number a s d e = d
  no_count by_truth a s d e = e

  wrong_count : {u : Measure} (c : Curly (copy u)) (f : Front (copy u)) (v : Value) (k : Span) (K : Stack) (s : Span) (a : Atom) → count_of u a s ≡ none →
      Does l (want_count c f v k K) (tok (Tokens.atom a) s) Move.Wrong
  wrong_count c f v k K s a e = wrong l _ _ s (λ e. e) (ap (λ (x : Option (Count _)). counted x c f v k K) e)

  does_truth : {u : Measure} (c : Curly (copy u)) (f : Front (copy u)) (v : Value) (k : Span) (K : Stack) (s : Span) (b : Bool) →
      Does l (want_count c f v k K) (tok (Tokens.atom (Tokens.boolean b)) s) (Model.truth_count_of (style_of c))
  does_truth (counted_curly o array t j d) f v k K s b = wrong l _ _ s (λ e. e) refl
  does_truth (counted_curly o set t j d) f v k K s b = takes_count (counted_curly o set t j d) f v k K s (Tokens.boolean b) (Tree.truth b s) refl refl λ i. refl
  does_truth (counted_curly o bag t j d) f v k K s b = wrong l _ _ s (λ e. e) refl

  does_number : {u : Measure} (c : Curly (copy u)) (f : Front (copy u)) (v : Value) (k : Span) (K : Stack) (s : Span) (b : Bool) →
      Does l (want_count c f v k K) (tok (Tokens.atom (Tokens.integer b)) s) (Model.number_count_of (style_of c) b)
  does_number (counted_curly o array t j d) f v k K s false =
      takes_count (counted_curly o array t j d) f v k K s (Tokens.integer false) (Tree.number s) refl refl λ i. refl
  does_number (counted_curly o array t j d) f v k K s true = wrong l _ _ s (λ e. e) refl
  does_number (counted_curly o set t j d) f v k K s b = wrong l _ _ s (λ e. e) refl
  does_number (counted_curly o bag t j d) f v k K s false =
      takes_count (counted_curly o bag t j d) f v k K s (Tokens.integer false) (Tree.number s) refl refl λ i. refl
  does_number (counted_curly o bag t j d) f v k K s true = wrong l _ _ s (λ e. e) refl

  pub does_count : {u : Measure} (c : Curly (copy u)) (f : Front (copy u)) (v : Value) (k : Span) (K : Stack) (s : Span) (y : Kind) →
      Does l (want_count c f v k K) (tok (class_kind y) s) (Model.count (style_of c) y)
  does_count {u} c f v k K s Kind.Ignorance = wrong_count c f v k K s _ (no_count u _ s refl refl)
  does_count c f v k K s (Kind.Boolean b) = does_truth c f v k K s b
  does_count c f v k K s (Kind.Integer signed) = does_number c f v k K s signed
  does_count {u} c f v k K s Kind.Fraction = wrong_count c f v k K s _ (no_count u _ s refl refl)
  does_count {u} c f v k K s Kind.Bits = wrong_count c f v k K s _ (no_count u _ s refl refl)
  does_count {u} c f v k K s Kind.Blob = wrong_count c f v k K s _ (no_count u _ s refl refl)
  does_count c f v k K s (Kind.Text form) = wrong l _ _ s (λ e. e) refl
  does_count c f v k K s Kind.Later = wrong l _ _ s (λ e. e) refl
  does_count c f v k K s (Kind.Symbol y) = no_sign y
    where
      no_sign : (y : Sign) → Does l (want_count c f v k K) (tok (class_sign y) s) Move.Wrong
      no_sign Sign.RoundOpen = wrong l _ _ s (λ e. e) refl
      no_sign Sign.RoundClose = wrong l _ _ s (λ e. e) refl
      no_sign Sign.CurlyOpen = wrong l _ _ s (λ e. e) refl
      no_sign Sign.CurlyClose = wrong l _ _ s (λ e. e) refl
      no_sign Sign.SquareOpen = wrong l _ _ s (λ e. e) refl
      no_sign Sign.SquareClose = wrong l _ _ s (λ e. e) refl
      no_sign Sign.Comma = wrong l _ _ s (λ e. e) refl
      no_sign Sign.ArrowRight = wrong l _ _ s (λ e. e) refl
      no_sign Sign.ArrowLeft = wrong l _ _ s (λ e. e) refl
      no_sign Sign.Dots = wrong l _ _ s (λ e. e) refl
      no_sign (Sign.Star a b) = wrong l _ _ s (λ e. e) refl
  does_count c f v k K s Kind.Colon = wrong l _ _ s (λ e. e) refl
  does_count c f v k K s Kind.TwoColons = wrong l _ _ s (λ e. e) refl
