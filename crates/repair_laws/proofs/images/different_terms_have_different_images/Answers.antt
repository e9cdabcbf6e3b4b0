use Rattle.repair_laws.proofs.ImageLaws.{one_image_one_term}
use Rattle.repair_laws.proofs.images.different_terms_have_different_images.Goals as goal

pub returns : goal.returns
returns c = λ program m terms t u o valid tells closed has h k. one_image_one_term program m terms valid tells closed t has u o h k
