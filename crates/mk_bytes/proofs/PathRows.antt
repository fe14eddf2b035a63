-- Paths that people write, cleaned.
use Rattle.std.proofs.Common.{◌≡◌, true, false, refl, codes}
use Rattle.mk_bytes.specs.Paths.{clean, is_clean_directory}

below_the_directory : clean (codes "/w") (codes "./a/../b//c") ≡ codes "b/c"
below_the_directory = refl

the_directory_itself : clean (codes "/w") (codes "../w") ≡ codes "."
the_directory_itself = refl

beside_the_directory : clean (codes "/w") (codes "../y") ≡ codes "/y"
beside_the_directory = refl

a_name_that_begins_like_the_directory : clean (codes "/w") (codes "/wx/y") ≡ codes "/wx/y"
a_name_that_begins_like_the_directory = refl

from_the_root : clean (codes "/") (codes "/a/./b/") ≡ codes "a/b"
from_the_root = refl

above_the_root : clean (codes "/") (codes "..") ≡ codes "."
above_the_root = refl

no_path : clean (codes "/w") (codes "") ≡ codes "."
no_path = refl

clean_directory : is_clean_directory (codes "/usr/src") ≡ true
clean_directory = refl

doubled_slash : is_clean_directory (codes "//usr") ≡ false
doubled_slash = refl
