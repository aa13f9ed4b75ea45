use Rattle.lint_advice.proofs.text.put_said.Goals as goal

pub returns-in-IdleMax : goal.returns-in-IdleMax
returns-in-IdleMax c = rw c.in-IdleMax.is (rw c.from.ensures at c.put_number.ensures)

pub returns-in-ShutOut : goal.returns-in-ShutOut
returns-in-ShutOut c = rw c.in-ShutOut.is (rw c.from-in-ShutOut.ensures at c.put_number-in-ShutOut.ensures)
