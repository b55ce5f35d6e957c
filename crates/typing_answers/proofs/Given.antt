-- Answers to associations one after the other.
use Rattle.std.proofs.Common.{List, [], ◌∷◌, ◌++◌}
use Rattle.schema_tree.specs.declared.schema.Answer.{Answer}
use Rattle.shape_map.specs.declared.resolve.Association.{Association}
use Rattle.std.specs.Prelude.{Contains}
use Rattle.lists.proofs.Members.{is_first, is_later}
use Rattle.typing_answers.specs.Replies.{AreGiven, given, left, none}

module _ {Left : Association → Type 0} {Given : Association → Answer → Type 0} where
  -- one more is left out
  pub one_left : (asked : List Association) (answers : List Answer) (a : Association) → AreGiven Left Given asked answers → Left a → AreGiven Left Given (asked ++ a ∷ []) answers
  one_left [] [] a none h = left h none
  one_left [] (x ∷ answers) a k h = elim k [ ]
  one_left (b ∷ asked) answers a (left k more) h = left k (one_left asked answers a more h)
  one_left (b ∷ asked) (x ∷ answers) a (given k more) h = given k (one_left asked answers a more h)

  -- one more is answered
  pub one_given : (asked : List Association) (answers : List Answer) (a : Association) (x : Answer) → AreGiven Left Given asked answers → Given a x →
      AreGiven Left Given (asked ++ a ∷ []) (answers ++ x ∷ [])
  one_given [] [] a x none h = given h none
  one_given [] (y ∷ answers) a x k h = elim k [ ]
  one_given (b ∷ asked) answers a x (left k more) h = left k (one_given asked answers a x more h)
  one_given (b ∷ asked) (y ∷ answers) a x (given k more) h = given k (one_given asked answers a x more h)

-- what is so of each association is so of what they are given
pub given_to : {Left Left' : Association → Type 0} {Given Given' : Association → Answer → Type 0} (asked : List Association) (answers : List Answer) →
    ((a : Association) → Contains asked a → Left a → Left' a) → ((a : Association) (x : Answer) → Contains asked a → Given a x → Given' a x) →
    AreGiven Left Given asked answers → AreGiven Left' Given' asked answers
given_to [] [] l g none = none
given_to [] (x ∷ answers) l g k = elim k [ ]
given_to (a ∷ asked) answers l g (left h more) = left (l a (is_first a asked) h) (given_to asked answers (λ b c. l b (is_later a asked b c)) (λ b x c. g b x (is_later a asked b c)) more)
given_to (a ∷ asked) (x ∷ answers) l g (given h more) = given (g a x (is_first a asked) h) (given_to asked answers (λ b c. l b (is_later a asked b c)) (λ b y c. g b y (is_later a asked b c)) more)
