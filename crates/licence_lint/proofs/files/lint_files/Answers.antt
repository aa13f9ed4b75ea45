use Rattle.licence_lint.proofs.Linting.{advice_ends, asked_all, refusal_ends}
use Rattle.licence_lint.proofs.files.lint_files.Goals as goal

pub returns-in-Ok-clause-says : goal.returns-in-Ok-clause-says
returns-in-Ok-clause-says g c = record {
  readings = c.in-Ok.ensures.says.readings;
  are = c.in-Ok.ensures.says.are;
  says = advice_ends _ _ _ _ _ _ c.write_advice.result c.in-Ok.ensures.says.says (rw c.as_slice.ensures.value at c.write_advice.ensures);
}

pub returns-in-Err-clause-says : goal.returns-in-Err-clause-says
returns-in-Err-clause-says g c = record {
  readings = c.in-Err.ensures.says.readings;
  are = c.in-Err.ensures.says.are;
  says = refusal_ends _ _ _ _ c.in-Err.status c.in-Err.ensures.says.says;
}

pub returns-in-Ok-clause-asked : goal.returns-in-Ok-clause-asked
returns-in-Ok-clause-asked g c = asked_all _ _ _ _ c.write_advice.result _ _ _ _ _ _ c.write_advice.ensures c.in-Ok.ensures.asked
