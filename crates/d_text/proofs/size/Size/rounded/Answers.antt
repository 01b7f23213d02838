use Rattle.d_text.proofs.SizeFacts.{nearest-plain, nearest-exact, nearest-over}
use Rattle.d_text.proofs.size.Size.rounded.Goals as goal

pub returns-then-self-clause-near : goal.returns-then-self-clause-near
returns-then-self-clause-near c = λ o u some h. rw c.if-minus.true (nearest-exact c.args.self o u some h c.if-self.true)

pub returns-else-self-clause-near : goal.returns-else-self-clause-near
returns-else-self-clause-near c = λ o u some h. rw c.if-minus.true (nearest-over c.args.self o u h c.if-self.false)

pub returns-else-minus-clause-near : goal.returns-else-minus-clause-near
returns-else-minus-clause-near c = λ o u some h. rw c.if-minus.false (nearest-plain c.args.self o u some h)
