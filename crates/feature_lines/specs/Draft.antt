use Rattle.feature_lines.specs.declared.draft.Draft.{Draft}
use Rattle.feature_lines.specs.Steps.{Sofar}

abbrev pub sofar_of : Draft → Sofar
sofar_of d = record { pools = d.pools.items; notes = d.notes.items; features = d.features.keys }
