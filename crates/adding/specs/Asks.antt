-- What append is asked to add, as it is given it.
use Rattle.additions.specs.Addition.{Addition as Asked, asks}
use Rattle.adding.specs.declared.addition.Addition.{Addition}

-- what it asks
abbrev pub asks_of : Addition → Asked
asks_of a = asks a.header a.outside a.list.now a.bytes.now a.texts.now a.lengths.now
