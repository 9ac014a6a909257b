use Rattle.abl_values.proofs.Products.{product_rank, whole_product_rank, quotient_rank}
use Rattle.abl_values.proofs.laws.products_are_those_of_integers.Goals as goal

pub returns-clause-product : goal.returns-clause-product
returns-clause-product c = product_rank

pub returns-clause-whole : goal.returns-clause-whole
returns-clause-whole c = whole_product_rank

pub returns-clause-quotient : goal.returns-clause-quotient
returns-clause-quotient c = quotient_rank
