-- `writers::kinds::response_bare` meets its contract: each part stands straight behind the one before. Assumes nothing.
use mathlib.Core.Path.{refl}
use Rattle.numbers.specs.Numbers.{big}
use Rattle.writers.specs.Writers.{header, encode}
use Rattle.writers.proofs.kinds.response_bare.Goals as goal

pub returns : goal.returns
unfolding big header encode
returns c =
    record { bytes = c.write_response.ensures; count = refl }
