mod Puts
