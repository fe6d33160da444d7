use Rattle.std.specs.List.{list_all}
use Rattle.bf_image.proofs.items.Lists.{all_of_contained}
use Rattle.bf_image.proofs.finding.Owned.{target_unobjected}
use Rattle.bf_image.proofs.admitting.Admitted.{image_admitted}
use Rattle.bf_image.proofs.admitting.Few.{goes_over_few, few_sources}
use Rattle.bf_image_laws.proofs.laws.an_image_is_admitted.Goals as goal

pub returns : goal.returns
returns c = λ old m t lawful among.
    image_admitted old lawful.database t (target_unobjected old m lawful t among)
    (all_of_contained (λ t. list_all (goes_over_few old) t.arms) m.targets t (few_sources old m lawful.few) among)
